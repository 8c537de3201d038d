-- Record by record: what was passed of the input has printed what stands in the buffer, and the tables hold the cache after it.
use mathlib.Core.Path.{◌≡◌, refl, sym, ap, ◌∙◌, subst}
use mathlib.Core.List.{List, [], ◌++◌}
use Prim.Native.Nat.{ℕ, ◌+◌, ◌*◌, ◌≤◌, ◌<◌}
use native.Mathlib.Omega.{arith}
use lib.ListN.{length, get_or, take, drop, length-drop}
use lib.Seq.{take-add, length-take-le}
use Rattle.ledger.specs.Cache.{Cache}
use Rattle.promise.specs.Promise.{Sound}
use Rattle.buckets_tables.specs.declared.State.{State}
use Rattle.cache_tables.specs.Tables.{CacheTables, CacheHolds}
use Rattle.cache_tables.specs.Lent.{cache}
use Rattle.trace.specs.Lines.{text, step}
use Rattle.trace.specs.Output.{Run, run, RECORD, little, ended, runs}
use Rattle.trace.proofs.Running.{runs_on, record_runs}
use Rattle.trace_record.specs.Steps.{RecordPrints}
use Rattle.trace_input.specs.Feeding.{PRINT, record_at, part, FedBy, Feeds}
use Rattle.trace_input.proofs.Records.{code_read, key_read, value_read}

-- One more record of the input

module _ (c : Cache) (input : List ℕ) (next : ℕ) (inside : next + RECORD ≤ length input) (whole : (part c input next).pending ≡ []) (code key value : ℕ)
    (code_is : code ≡ get_or input next 0) (key_is : key ≡ little (take 8 (drop (next + 1) input))) (value-is : value ≡ little (take 8 (drop (next + 9) input))) where
  abbrev bytes : List ℕ
  bytes = record_at input next

  abbrev done : Run
  done = part c input next

  part_more : part c input (next + RECORD) ≡ run (done.printed ++ text (step code key value done.cache).0) (step code key value done.cache).1 []
  unfolding ended
  part_more =
      let pend : done ≡ run done.printed done.cache [] = λ i. record { printed = done.printed; cache = done.cache; pending = whole i } in
      ap (runs (run [] c [])) (take-add next RECORD input)
      ∙ runs_on (run [] c []) (take next input) bytes
      ∙ ap (λ (r : Run). runs r bytes) pend
      ∙ record_runs done.printed done.cache bytes (length-take-le RECORD (drop next input) (rw length-drop (omega arith)))
      ∙ sym (rw (code_is ∙ code_read input next, key_is ∙ key_read input next, value-is ∙ value_read input next))

-- The loop

pub record Feeding (t : CacheTables) (s : State) (input : List ℕ) (n : ℕ) (t' : CacheTables) (s' : State) (out : List ℕ) (at next : ℕ) : Type 0 where
  pub begun : next ≤ n
  pub room : at ≤ next * PRINT
  pub fed : (c : Cache) → CacheHolds t s c → FedBy c input t' s' out (record { at = at; next = next })

module _ (t : CacheTables) (s : State) (input : List ℕ) (n : ℕ) where
  pub feeding_start : (out : List ℕ) → Feeding t s input n t s out 0 0
  unfolding runs
  feeding_start out = record {
    begun = omega arith;
    room = omega arith;
    fed = λ c h. record { printed = refl; whole = refl; holds = h };
  }

  module _ (t' : CacheTables) (s' : State) (out : List ℕ) (at next : ℕ) (so_far : Feeding t s input n t' s' out at next) where
    pub feeding_more : Sound cache t s → next + RECORD ≤ n → n ≤ length input → (code key value : ℕ) → code ≡ get_or input next 0 → key ≡ little (take 8 (drop (next + 1) input)) →
        value ≡ little (take 8 (drop (next + 9) input)) → (t'' : CacheTables) (s'' : State) (out' : List ℕ) (r : ℕ) →
        RecordPrints (step code key value) t' s' out at t'' s'' out' r → Feeding t s input n t'' s'' out' r (next + RECORD)
    feeding_more w more inside code key value e₁ e₂ e₃ t'' s'' out' r prints = record {
      begun = more;
      room =
          let room = so_far.room in
          let short = (prints (part w.0 input next).cache (so_far.fed w.0 w.1).holds).0.short in
          omega arith;
      fed = λ c h.
          let f = so_far.fed c h in
          let p = prints (part c input next).cache f.holds in
          let e = part_more c input next (omega arith) f.whole code key value e₁ e₂ e₃ in
          record {
            printed = p.0.writes.written ∙ ap (λ (l : List ℕ). l ++ text (step code key value (part c input next).cache).0) f.printed ∙ sym (ap (λ (x : Run). x.printed) e);
            whole = ap (λ (x : Run). x.pending) e;
            holds = subst (λ (x : Run). CacheHolds t'' s'' x.cache) (sym e) p.1;
          };
    }

    pub feeding_end : n < next + RECORD → Feeds t s input n t' s' out (record { at = at; next = next })
    feeding_end less = record {
      begun = so_far.begun;
      left = less;
      room = let room = so_far.room in let begun = so_far.begun in omega arith;
      fed = so_far.fed;
    }
