-- An operation is the call of its arm: the arm knows its number, and there the table of operations computes. The promise is the call's own.
use mathlib.Core.Path.{◌≡◌, refl, subst}
use mathlib.Core.Logic.{◌⊎◌, inl, inr}
use mathlib.Core.List.{List}
use Rattle.std.proofs.Common.{Result}
use Prim.Native.Nat.{ℕ}
use borrow.Author.Tests.{ne_eqb}
use Rattle.numbers.specs.declared.Refusal.{Refusal}
use Rattle.ledger.specs.Buckets.{Reply}
use Rattle.ledger.specs.Cache.{Cache}
use Rattle.ledger.specs.History.{CacheCall, Insert}
use Rattle.ledger.specs.CacheCalls.{CacheOutcome}
use Rattle.promise.specs.Promise.{Promised, Makes, Checks}
use Rattle.levels.specs.Held.{Tabs}
use Rattle.buckets_tables.specs.declared.Guests.{Guests}
use Rattle.buckets_tables.specs.declared.State.{State}
use Rattle.buckets_tables.specs.Slices.{joined}
use Rattle.answers.specs.declared.Insertion.{Insertion}
use Rattle.answers.specs.Replies.{insertion_reply, plain_reply}
use Rattle.cache_tables.specs.Tables.{CacheTables, with_values}
use Rattle.cache_tables.specs.Lent.{cache}
use Rattle.lfu_batches.specs.Batches.{InsertsAll}
use Rattle.drive_lines.specs.declared.Told.{Told}
use Rattle.drive_lines.specs.Driving.{Stays}
use Rattle.drive_lines.specs.Lines.{text, reply_text, insertion_text}
use Rattle.drive_cache.specs.Operations.{CacheOperation, Check, Single, InsertAll, Batch, question, cache_call, batch_call, Says, DrivesCache}

-- The promise of a call, with its line

module _ (t : CacheTables) (s : State) (told : Told) (t' : CacheTables) (s' : State) where
  pub batched : (f : Cache → CacheOutcome) (r : Reply) → text told ≡ reply_text r → Promised cache f t s r t' s' → DrivesCache (Batch f) t s told t' s'
  unfolding DrivesCache
  batched f r e p = (r, e, p)

  pub all_inserted : (ks vs : List ℕ) (r : Reply) → text told ≡ reply_text r → InsertsAll ks vs t s r t' s' → DrivesCache (InsertAll ks vs) t s told t' s'
  unfolding DrivesCache
  all_inserted ks vs r e p = (r, e, p)

  pub called : (c : CacheCall) (r : Reply) → Says c told r → Makes cache c t s r t' s' → DrivesCache (Single c) t s told t' s'
  unfolding DrivesCache
  called c r e p = (r, e, p)

  pub bound : (k v : ℕ) (a : Result Insertion Refusal) → text told ≡ insertion_text a → Makes cache (Insert k v) t s (insertion_reply a) t' s' →
      DrivesCache (Single (Insert k v)) t s told t' s'
  bound k v a e p = called (Insert k v) (insertion_reply a) (a, refl, e) p

pub checked : (t : CacheTables) (s : State) (told : Told) (a : Result Unit Refusal) → text told ≡ reply_text (plain_reply a) → Checks cache t s a →
    DrivesCache Check t s told t s
unfolding DrivesCache
checked t s told a e p = ((a, e, p), refl, refl)

-- Tables that are shown for reading are the tables that are lent

module _ (o : CacheOperation) (e e' vs vs' : List ℕ) (s : State) (told : Told) (s' : State) where
  pub guests_shown : (g g' : Guests (List ℕ)) → g ≡ g' → (l l' : Tabs) →
      DrivesCache o (with_values (joined g e l) vs) s told (with_values (joined g e' l') vs') s' →
      DrivesCache o (with_values (joined g' e l) vs) s told (with_values (joined g' e' l') vs') s'
  guests_shown g g' q l l' w = subst (λ (x : Guests (List ℕ)). DrivesCache o (with_values (joined x e l) vs) s told (with_values (joined x e' l') vs') s') q w

  pub levels_shown : (l l' : Tabs) → l ≡ l' → (g : Guests (List ℕ)) →
      DrivesCache o (with_values (joined g e l) vs) s told (with_values (joined g e' l) vs') s' →
      DrivesCache o (with_values (joined g e l') vs) s told (with_values (joined g e' l') vs') s'
  levels_shown l l' q g w = subst (λ (x : Tabs). DrivesCache o (with_values (joined g e x) vs) s told (with_values (joined g e' x) vs') s') q w

-- Which call an operation is

module _ (t : CacheTables) (s : State) (told : Told) (t' : CacheTables) (s' : State) (code : ℕ) where
  module _ (m : ℕ) (e : code ≡ m) where
    pub asked : (a : ℕ) → DrivesCache (question m a) t s told t' s' → DrivesCache (question code a) t s told t' s'
    asked a d = rw e d

    pub acted : (a b : ℕ) → DrivesCache (cache_call m a b) t s told t' s' → DrivesCache (cache_call code a b) t s told t' s'
    acted a b d = rw e d

    pub acted_all : (ks vs : List ℕ) → DrivesCache (batch_call m ks vs) t s told t' s' → DrivesCache (batch_call code ks vs) t s told t' s'
    acted_all ks vs d = rw e d

  pub asked_none : (a : ℕ) → (code ≡ 42 → ⊥) → (code ≡ 45 → ⊥) → (code ≡ 48 → ⊥) → (code ≡ 49 → ⊥) → Stays cache t s told t' s' →
      DrivesCache (question code a) t s told t' s'
  unfolding DrivesCache
  asked_none a n1 n2 n3 n4 d = rw (ne_eqb code 42 n1, ne_eqb code 45 n2, ne_eqb code 48 n3, ne_eqb code 49 n4) d

  pub acted_else : (a b : ℕ) → (code ≡ 40 → ⊥) → (code ≡ 41 → ⊥) → (code ≡ 43 → ⊥) → (code ≡ 44 → ⊥) → (code ≡ 46 → ⊥) → (code ≡ 47 → ⊥) →
      DrivesCache (question code a) t s told t' s' → DrivesCache (cache_call code a b) t s told t' s'
  acted_else a b n1 n2 n3 n4 n5 n6 d =
      rw (ne_eqb code 40 n1, ne_eqb code 41 n2, ne_eqb code 43 n3, ne_eqb code 44 n4, ne_eqb code 46 n5, ne_eqb code 47 n6) d

  -- inserts, with as many values as keys or not
  pub acted_inserts : (ks vs : List ℕ) → (code ≡ 63) ⊎ (code ≡ 66) → DrivesCache (InsertAll ks vs) t s told t' s' → DrivesCache (batch_call code ks vs) t s told t' s'
  acted_inserts ks vs (inl e) d = rw e d
  acted_inserts ks vs (inr e) d = rw e d

  pub acted_none : (ks vs : List ℕ) → ((code ≡ 63) ⊎ (code ≡ 66) → ⊥) → (code ≡ 64 → ⊥) → (code ≡ 65 → ⊥) → Stays cache t s told t' s' →
      DrivesCache (batch_call code ks vs) t s told t' s'
  unfolding DrivesCache
  acted_none ks vs n1 n2 n3 d =
      rw (ne_eqb code 63 (λ e. n1 (inl e)), ne_eqb code 64 n2, ne_eqb code 65 n3, ne_eqb code 66 (λ e. n1 (inr e))) d
