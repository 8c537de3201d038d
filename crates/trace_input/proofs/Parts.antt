-- An input that is read in parts prints what it prints as a whole: what was printed stays in front, whole records leave nothing pending,
-- and less than a record prints nothing.
use mathlib.Core.Path.{◌≡◌, refl, sym, ap, ◌∙◌, subst}
use mathlib.Core.Bool.{Bool, true, false, cond}
use mathlib.Core.List.{List, [], ◌∷◌, ◌++◌, append_assoc, append-nil}
use Prim.Native.Nat.{ℕ, zero, suc, ◌+◌, ◌*◌, ◌≤◌, ◌<◌, ◌-◌}
use native.Mathlib.Omega.{arith}
use borrow.Author.Tests.{lt-ltb, le-ltb, ne_eqb}
use lib.Dec.{eqb, ltb}
use lib.ListN.{length, take, drop, length-append, length-drop, take-append-drop}
use lib.Seq.{take-add, length-take-le}
use Rattle.ledger.specs.Cache.{Cache, new_cache, cache_len}
use Rattle.ledger.specs.History.{does}
use Rattle.buckets_tables.specs.declared.State.{State}
use Rattle.cache_tables.specs.Tables.{CacheTables, CacheHolds}
use Rattle.std.proofs.Common.{Ok}
use Rattle.trace.specs.Ends.{PART, last_of}
use Rattle.trace.specs.Lines.{text, tells, step, LONGEST}
use Rattle.trace.specs.Output.{Run, run, RECORD, code_of, key_of, value_of, ended, reads, runs, last_line, finished, HEADER, header_of, output}
use Rattle.trace.specs.Written.{Spells}
use Rattle.trace.proofs.Beginning.{output_first}
use Rattle.trace.proofs.Running.{runs_on, record_runs}
use Rattle.trace_input.specs.declared.Fed.{Fed}
use Rattle.trace_input.specs.Feeding.{PRINT, part_run, part, Feeds}
use Rattle.trace_input.specs.Parts.{closing, Parts, InParts, printed_by, joined}

-- Bytes after bytes

-- something was printed before
abbrev behind : List ℕ → Run → Run
behind out r = run (out ++ r.printed) r.cache r.pending

by_end : (out : List ℕ) (r : Run) (bs : List ℕ) (e : Bool) →
    cond e (ended (out ++ r.printed) r.cache bs) (run (out ++ r.printed) r.cache bs) ≡ behind out (cond e (ended r.printed r.cache bs) (run r.printed r.cache bs))
unfolding ended
by_end out r bs true =
    let s = step (code_of bs) (key_of bs) (value_of bs) r.cache in
    λ i. record { printed = append_assoc out r.printed (text s.0) i; cache = s.1; pending = [] }
by_end out r bs false = refl

reads_behind : (out : List ℕ) (r : Run) (b : ℕ) → reads (behind out r) b ≡ behind out (reads r b)
unfolding reads
reads_behind out r b = let bs = r.pending ++ (b ∷ []) in by_end out r bs (eqb (length bs) RECORD)

runs_behind : (out : List ℕ) (r : Run) (bs : List ℕ) → runs (behind out r) bs ≡ behind out (runs r bs)
unfolding runs
runs_behind out r [] = refl
runs_behind out r (b ∷ bs) = ap (λ (x : Run). runs x bs) (reads_behind out r b) ∙ runs_behind out (reads r b) bs

-- less than a record stays pending
few_runs : (out : List ℕ) (c : Cache) (p xs : List ℕ) → length p + length xs < RECORD → runs (run out c p) xs ≡ run out c (p ++ xs)
unfolding runs reads
few_runs out c p [] h = ap (run out c) (sym (append-nil p))
few_runs out c p (x ∷ xs) h =
    rw (ne_eqb (length (p ++ (x ∷ []))) RECORD (λ q. let more = simp length-append at q in omega arith))
    (few_runs out c (p ++ (x ∷ [])) xs (simp length-append (omega arith)) ∙ ap (run out c) (append_assoc p (x ∷ []) xs))

-- whole records leave nothing
records_run : (k : ℕ) (out : List ℕ) (c : Cache) (bs : List ℕ) → length bs ≡ k * RECORD → (runs (run out c []) bs).pending ≡ []
unfolding runs ended
records_run zero out c [] e = refl
records_run zero out c (b ∷ bs) e = absurd (omega arith)
records_run (suc k) out c bs e =
    let first = take RECORD bs in
    let rest = drop RECORD bs in
    let done = ended out c first in
    ap (λ (x : Run). x.pending) (ap (runs (run out c [])) (sym (take-append-drop RECORD bs)) ∙ runs_on (run out c []) first rest ∙ ap (λ (x : Run). runs x rest) (record_runs out c first (length-take-le RECORD bs (omega arith))))
    ∙ records_run k done.printed done.cache rest (rw length-drop (omega arith))

-- Parts of an input

full_run : (c : Cache) (p : List ℕ) → length p ≡ PART → part_run c p ≡ behind (part_run c p).printed (run [] (part_run c p).cache [])
full_run c p e = λ i. record {
  printed = sym (append-nil (part_run c p).printed) i;
  cache = (part_run c p).cache;
  pending = records_run 1284 [] c p e i;
}

pub parts_print : (c : Cache) (ps : List (List ℕ)) → InParts ps → printed_by c ps ≡ finished (part_run c (joined ps))
parts_print c [] h = absurd h
parts_print c (p ∷ []) h = rw (lt-ltb (length p) PART h, append-nil (finished (part_run c p)), append-nil p)
parts_print c (p ∷ (q ∷ ps)) h =
    let out = (part_run c p).printed in
    let after = (part_run c p).cache in
    let rest = joined (q ∷ ps) in
    let whole : part_run c (p ++ rest) ≡ behind out (part_run after rest) =
    runs_on (run [] c []) p rest ∙ ap (λ (x : Run). runs x rest) (full_run c p h.0) ∙ runs_behind out (run [] after []) rest in
    rw (le-ltb (length p) PART (omega (arith, h.0)), whole, parts_print after (q ∷ ps) h.1)
    (sym (append_assoc out (part_run after rest).printed (last_line (part_run after rest).cache (part_run after rest).pending)))

-- a header that begins, and then parts
pub output_in_parts : (first : List ℕ) (ps : List (List ℕ)) (capacity : ℕ) → length first ≡ HEADER → header_of first ≡ Ok capacity → InParts ps →
    output (first ++ joined ps) ≡ printed_by (new_cache capacity) ps
output_in_parts first ps capacity all begins h = output_first first (joined ps) all (Ok capacity) (sym begins) ∙ sym (parts_print (new_cache capacity) ps h)

-- One part: its whole records, and the bytes behind them

last_is : (c : Cache) (rest : List ℕ) (left count : ℕ) → length rest ≡ left → count ≡ cache_len c → text (last_of left count) ≡ last_line c rest
unfolding tells does
last_is c [] left count e many = rw (sym e, many)
last_is c (b ∷ bs) left count e many = rw (lt-ltb 0 left (omega arith))

by_full : (b : Bool) (xs ys : List ℕ) → cond b (xs ++ ys) xs ≡ xs ++ cond b ys []
by_full true xs ys = refl
by_full false xs ys = sym (append-nil xs)

module _ (t : CacheTables) (s : State) (input : List ℕ) (n : ℕ) (inside : n ≤ length input) (t' : CacheTables) (s' : State) (out : List ℕ) (fed : Fed) (feeds : Feeds t s input n t' s' out fed) where
  -- the bytes of a record that has not ended
  abbrev rest : List ℕ
  rest = take (n - fed.next) (drop fed.next input)

  rest_size : length rest ≡ n - fed.next
  rest_size = length-take-le (n - fed.next) (drop fed.next input) (rw length-drop (omega arith))

  rest_run : (c : Cache) → (part c input fed.next).pending ≡ [] → part c input n ≡ run (part c input fed.next).printed (part c input fed.next).cache rest
  rest_run c whole =
      let done = part c input fed.next in
      let size : fed.next + (n - fed.next) ≡ n = omega (arith, feeds.begun) in
      let pend : done ≡ run done.printed done.cache [] = λ i. record { printed = done.printed; cache = done.cache; pending = whole i } in
      ap (part c input) (sym size) ∙ ap (part_run c) (take-add fed.next (n - fed.next) input)
      ∙ runs_on (run [] c []) (take fed.next input) rest
      ∙ ap (λ (r : Run). runs r rest) pend
      ∙ few_runs done.printed done.cache [] rest (omega (arith, rest_size, feeds.left))

  pub part_prints : (out' : List ℕ) (r : ℕ) → Spells out fed.at (closing n (n - fed.next) s'.count) LONGEST out' r → n * PRINT + LONGEST ≤ length out' →
      Parts t s input n t' s' out' r
  unfolding cache_len
  part_prints out' r closed fits = record {
    room = omega (arith, closed.short, feeds.room);
    prints = λ c h.
        let f = feeds.fed c h in
        let done = part c input fed.next in
        let e = rest_run c f.whole in
        let size : length (take n input) ≡ n = length-take-le n input inside in
        let last = last_is done.cache rest (n - fed.next) s'.count rest_size f.holds.table.count in
        record {
          printed = closed.writes.written ∙ ap (λ (l : List ℕ). l ++ closing n (n - fed.next) s'.count) f.printed ∙ sym (rw (size, e, sym last) (by_full (ltb n PART) done.printed (text (last_of (n - fed.next) s'.count))));
          holds = subst (λ (x : Run). CacheHolds t' s' x.cache) (sym e) f.holds;
        };
  }
