-- From the answers of the cache's calls to the lines that they print. An answer of the code and one of the ledger have the same line where
-- document 01's reply is the same; the rest is the call's own promise.
use mathlib.Core.Path.{◌≡◌, refl, sym, ◌∙◌, subst}
use mathlib.Core.List.{List, []}
use Prim.Native.Nat.{ℕ, ◌≤◌}
use native.Mathlib.Omega.{arith}
use borrow.Author.Tests.{ne_eqb}
use Rattle.std.proofs.Common.{Result, Ok, Err}
use Rattle.numbers.specs.declared.Key.{Key}
use Rattle.numbers.specs.declared.Frequency.{Frequency}
use Rattle.numbers.specs.declared.Refusal.{Refusal}
use Rattle.ledger.specs.Buckets.{done}
use Rattle.ledger.specs.Cache as ledger
use Rattle.ledger.specs.Cache.{Cache, insert_reply, lookup_reply, cache_insert, cache_get, cache_peek, cache_remove, cache_reset, cache_peek_lfu, cache_evict}
use Rattle.ledger.specs.History.{CacheCall, Insert, Get, Peek, Remove, Reset, PeekLfu, Evict, Clear, does}
use Rattle.ledger.specs.CacheCalls.{cache_calls}
use Rattle.ledger.proofs.CacheRefusals.{CacheQuery, peek_asks, peek_lfu_asks, cache_queries_leave}
use Rattle.promise.specs.Promise.{Does, Tells}
use Rattle.levels.specs.Held.{Tabs}
use Rattle.buckets_tables.specs.declared.State.{State}
use Rattle.buckets_tables.specs.declared.Guests.{Guests}
use Rattle.buckets_tables.specs.Slices.{joined}
use Rattle.answers.specs.declared.Insertion.{Insertion}
use Rattle.answers.specs.declared.Insertion.TheVariants as insertion
use Rattle.answers.specs.Replies.{number_reply, level_reply, insertion_reply, least_used_reply}
use Rattle.cache_tables.specs.Tables.{CacheTables, with_values, CacheHolds}
use Rattle.cache_tables.specs.Lent.{cache}
use Rattle.trace.specs.declared.Word.{Word}
use Rattle.trace.specs.declared.Word.TheVariants as word
use Rattle.trace.specs.declared.Line.{Line}
use Rattle.trace.specs.declared.Line.TheVariants.{Plain}
use Rattle.trace.specs.Lines as lines
use Rattle.trace.specs.Lines.{text, LONGEST, call_of, tells, tells_if, step}
use Rattle.trace.specs.Written.{Spells}
use Rattle.trace_record.specs.Answers.{insertion_line, value_line, least_line, level_line}
use Rattle.trace_record.specs.Steps.{Lines, RecordPrints}

-- The same reply prints the same line

insertion_told : (a : Result Insertion Refusal) (b : ledger.Insertion) → insertion_reply a ≡ insert_reply b → insertion_line a ≡ lines.insert_line b
insertion_told (Ok insertion.New) ledger.fresh e = refl
insertion_told (Ok insertion.New) (ledger.fresh_out k) e = cc
insertion_told (Ok insertion.New) (ledger.old v) e = cc
insertion_told (Ok insertion.New) ledger.full e = cc
insertion_told (Ok (insertion.NewOut k)) ledger.fresh e = cc
insertion_told (Ok (insertion.NewOut k)) (ledger.fresh_out j) e = cc
insertion_told (Ok (insertion.NewOut k)) (ledger.old v) e = cc
insertion_told (Ok (insertion.NewOut k)) ledger.full e = cc
insertion_told (Ok (insertion.Old v)) ledger.fresh e = cc
insertion_told (Ok (insertion.Old v)) (ledger.fresh_out k) e = cc
insertion_told (Ok (insertion.Old v)) (ledger.old w) e = cc
insertion_told (Ok (insertion.Old v)) ledger.full e = cc
insertion_told (Err why) ledger.fresh e = cc
insertion_told (Err why) (ledger.fresh_out k) e = cc
insertion_told (Err why) (ledger.old v) e = cc
insertion_told (Err why) ledger.full e = refl

value_told : (w : Word) (a : Result ℕ Refusal) (b : ledger.Lookup) → number_reply a ≡ lookup_reply b → value_line w a ≡ lines.lookup_line w b
value_told w (Ok v) (ledger.hit n) e = cc
value_told w (Ok v) ledger.miss e = cc
value_told w (Err why) (ledger.hit n) e = cc
value_told w (Err why) ledger.miss e = refl

level_told : (a : Result Frequency Refusal) (b : ledger.Lookup) → level_reply a ≡ lookup_reply b → level_line a ≡ lines.lookup_line word.Reset b
level_told (Ok f) (ledger.hit n) e = cc
level_told (Ok f) ledger.miss e = cc
level_told (Err why) (ledger.hit n) e = cc
level_told (Err why) ledger.miss e = refl

least_told : (w : Word) (a : Result (Key × ℕ) Refusal) (b : ledger.Least) → least_used_reply a ≡ ledger.least_reply b → least_line w a ≡ lines.least_line w b
least_told w (Ok p) (ledger.least j u) e = cc
least_told w (Ok p) ledger.nothing e = cc
least_told w (Err why) (ledger.least j u) e = cc
least_told w (Err why) ledger.nothing e = refl

-- The calls

module _ (k : ℕ) (t : CacheTables) (s : State) (line : Line) (t' : CacheTables) (s' : State) where
  pub insert_tells : (v : ℕ) (a : Result Insertion Refusal) → line ≡ insertion_line a → Does cache (cache_calls (Insert k v)) t s (insertion_reply a) t' s' →
      Lines (tells (Insert k v)) t s line t' s'
  unfolding cache_calls does tells
  insert_tells v a e d c h = (e ∙ insertion_told a (cache_insert k v c).0 (d c h).answer, (d c h).holds)

  module _ (a : Result ℕ Refusal) where
    pub get_tells : line ≡ value_line word.Hit a → Does cache (cache_calls (Get k)) t s (number_reply a) t' s' → Lines (tells (Get k)) t s line t' s'
    unfolding cache_calls does tells
    get_tells e d c h = (e ∙ value_told word.Hit a (cache_get k c).0 (d c h).answer, (d c h).holds)

    pub remove_tells : line ≡ value_line word.Gone a → Does cache (cache_calls (Remove k)) t s (number_reply a) t' s' →
        Lines (tells (Remove k)) t s line t' s'
    unfolding cache_calls does tells
    remove_tells e d c h = (e ∙ value_told word.Gone a (cache_remove k c).0 (d c h).answer, (d c h).holds)

  pub reset_tells : (a : Result Frequency Refusal) → line ≡ level_line a → Does cache (cache_calls (Reset k)) t s (level_reply a) t' s' →
      Lines (tells (Reset k)) t s line t' s'
  unfolding cache_calls does tells
  reset_tells a e d c h = (e ∙ level_told a (cache_reset k c).0 (d c h).answer, (d c h).holds)

pub evict_tells : (t : CacheTables) (s : State) (line : Line) (t' : CacheTables) (s' : State) (a : Result (Key × ℕ) Refusal) → line ≡ least_line word.Out a →
    Does cache (cache_calls Evict) t s (least_used_reply a) t' s' → Lines (tells Evict) t s line t' s'
unfolding cache_calls does tells
evict_tells t s line t' s' a e d c h = (e ∙ least_told word.Out a (cache_evict c).0 (d c h).answer, (d c h).holds)

module _ (t : CacheTables) (s : State) (line : Line) where
  -- a query leaves the cache as it is
  stays : (call : CacheCall) → CacheQuery call → (c : Cache) → CacheHolds t s c → CacheHolds t s (does call c).1
  stays call q c h = subst (CacheHolds t s) (sym (cache_queries_leave c call q)) h

  pub peek_tells : (k : ℕ) (a : Result ℕ Refusal) → line ≡ value_line word.See a → Tells cache (cache_calls (Peek k)) t s (number_reply a) →
      Lines (tells (Peek k)) t s line t s
  unfolding cache_calls does tells
  peek_tells k a e d c h = (e ∙ value_told word.See a (cache_peek k c).0 (d c h), stays (Peek k) (peek_asks k) c h)

  pub least_tells : (a : Result (Key × ℕ) Refusal) → line ≡ least_line word.Least a → Tells cache (cache_calls PeekLfu) t s (least_used_reply a) →
      Lines (tells PeekLfu) t s line t s
  unfolding cache_calls does tells
  least_tells a e d c h = (e ∙ least_told word.Least a (cache_peek_lfu c).0 (d c h), stays PeekLfu peek_lfu_asks c h)

pub clear_tells : (t : CacheTables) (s : State) (line : Line) (t' : CacheTables) (s' : State) → line ≡ Plain word.Okay →
    Does cache (cache_calls Clear) t s (done []) t' s' → Lines (tells Clear) t s line t' s'
unfolding cache_calls does tells
clear_tells t s line t' s' e d c h = (e, (d c h).holds)

-- What a call was shown is what the tables have

module _ (f : Cache → Line × Cache) (g g₀ : Guests (List ℕ)) (same : g ≡ g₀) (vs : List ℕ) (s : State) (line : Line) where
  pub guests_shown : (e : List ℕ) (l : Tabs) (e' : List ℕ) (l' : Tabs) (s' : State) → Lines f (with_values (joined g e l) vs) s line (with_values (joined g e' l') vs) s' →
      Lines f (with_values (joined g₀ e l) vs) s line (with_values (joined g₀ e' l') vs) s'
  guests_shown e l e' l' s' told =
      subst (λ (h : Guests (List ℕ)). Lines f (with_values (joined h e l) vs) s line (with_values (joined h e' l') vs) s') same told

  pub tables_shown : (e : List ℕ) (l l₀ : Tabs) → l ≡ l₀ → Lines f (with_values (joined g e l) vs) s line (with_values (joined g e l) vs) s →
      Lines f (with_values (joined g₀ e l₀) vs) s line (with_values (joined g₀ e l₀) vs) s
  tables_shown e l l₀ alike told =
      guests_shown e l₀ e l₀ s (subst (λ (k : Tabs). Lines f (with_values (joined g e k) vs) s line (with_values (joined g e k) vs) s) alike told)

-- Records

module _ (code k v : ℕ) (t : CacheTables) (s : State) (line : Line) (t' : CacheTables) (s' : State) where
  pub acted : (m : ℕ) → code ≡ m → Lines (tells_if (call_of m k v)) t s line t' s' → Lines (step code k v) t s line t' s'
  unfolding step
  acted m e w = rw e w

pub acted_none : (code k v : ℕ) (t : CacheTables) (s : State) (line : Line) → (1 ≤ code → code ≤ 8 → ⊥) → line ≡ Plain word.Bad → Lines (step code k v) t s line t s
unfolding step
acted_none code k v t s line free e c h =
    rw (
      ne_eqb code 1 (λ q. free (omega arith) (omega arith)),
      ne_eqb code 2 (λ q. free (omega arith) (omega arith)),
      ne_eqb code 3 (λ q. free (omega arith) (omega arith)),
      ne_eqb code 4 (λ q. free (omega arith) (omega arith)),
      ne_eqb code 5 (λ q. free (omega arith) (omega arith)),
      ne_eqb code 6 (λ q. free (omega arith) (omega arith)),
      ne_eqb code 7 (λ q. free (omega arith) (omega arith)),
      ne_eqb code 8 (λ q. free (omega arith) (omega arith)),
    )
    (e, h)

pub printed : (f : Cache → Line × Cache) (t : CacheTables) (s : State) (out : List ℕ) (at : ℕ) (line : Line) (t' : CacheTables) (s' : State) (out' : List ℕ) (r : ℕ) →
    Lines f t s line t' s' → Spells out at (text line) LONGEST out' r → RecordPrints f t s out at t' s' out' r
printed f t s out at line t' s' out' r told w c h =
    (subst (λ (l : Line). Spells out at (text l) LONGEST out' r) (told c h).0 w, (told c h).1)
