-- Two slices of different lengths: what the look before a batch says of them, and that the batch does not begin.
use Rattle.std.proofs.Common.{◌≡◌, refl, sym, ◌∙◌, List, ℕ, length, arith, Result, Ok, Err}
use Rattle.numbers.specs.declared.Refusal.{Refusal}
use Rattle.lists.proofs.Tests.{by_eq}
use Rattle.ledger.specs.Buckets.{Reply, refused}
use Rattle.ledger.specs.CacheCalls.{insert_batch_call}
use Rattle.promise.specs.Promise.{Does, Sound}
use Rattle.buckets_tables.specs.declared.State.{State}
use Rattle.cache_tables.specs.Tables.{CacheTables}
use Rattle.cache_tables.proofs.Public as public
use Rattle.cache_tables.specs.Lent.{cache}
use Rattle.cache_check.specs.Check.{short_of}
use Rattle.lfu_batches.specs.Batches.{pairs, InsertsAll, BatchChecks}

never_ok : (u : Unit) (why : Refusal) → ◌≡◌ {A = Result Unit Refusal} (Err why) (Ok u) → ⊥
never_ok u why e = let z : ◌≡◌ {A = ℕ} 0 1 = cc in omega arith

module _ (ks vs : List ℕ) (t : CacheTables) (s : State) (a : Result Unit Refusal) (c : BatchChecks ks vs t s a) where
  even_ok : (u : Unit) → a ≡ Ok u → length ks ≡ length vs
  even_ok u e = by_eq (length ks) (length vs) (λ q. q) (λ n. absurd (never_ok u (short_of s.capacity) (sym (c.uneven n) ∙ e)))

  pub checked : (u : Unit) → a ≡ Ok u → Sound cache t s
  checked u e = public.checked t s a (c.even (even_ok u e)) u e

  pub inserts_all : (r : Reply) (t' : CacheTables) (s' : State) (u : Unit) → a ≡ Ok u → Does cache (insert_batch_call (pairs ks vs)) t s r t' s' →
      InsertsAll ks vs t s r t' s'
  inserts_all r t' s' u e d = record {
    even = λ q. public.does t s a (c.even q) (insert_batch_call (pairs ks vs)) r t' s' u e d;
    uneven = λ n. absurd (n (even_ok u e));
  }

  pub inserts_refused : (r : Reply) (why : Refusal) → a ≡ Err why → r ≡ refused why → InsertsAll ks vs t s r t s
  inserts_refused r why e told = record {
    even = λ p. public.refuses t s a (c.even p) (insert_batch_call (pairs ks vs)) r why e told;
    uneven = λ n. let same = c.uneven n in record { answer = told ∙ cc; tables = refl; state = refl };
  }
