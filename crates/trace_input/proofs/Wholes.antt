-- A whole input, by what its first bytes come to: a word alone, or a part of all bytes behind them.
use mathlib.Core.Path.{◌≡◌, sym, ap, ◌∙◌}
use mathlib.Core.List.{List}
use Prim.Native.Nat.{ℕ, ◌+◌, ◌*◌, ◌≤◌, ◌<◌, ◌-◌}
use native.Mathlib.Omega.{arith}
use borrow.Author.Tests.{lt-ltb}
use lib.ListN.{length, take, drop, length-drop}
use lib.Seq.{take_all, take-length}
use Rattle.std.proofs.Common.{Result, Ok, Err}
use Rattle.ledger.specs.Cache.{Cache, new_cache}
use Rattle.buckets_tables.specs.declared.State.{State}
use Rattle.cache_tables.specs.Tables.{CacheTables, CacheHolds}
use Rattle.trace.specs.declared.Word.{Word}
use Rattle.trace.specs.declared.Line.TheVariants.{Plain}
use Rattle.trace.specs.Ends.{PART}
use Rattle.trace.specs.Lines.{text, LONGEST}
use Rattle.trace.specs.Output.{HEADER, header_of, output}
use Rattle.trace.specs.Written.{Spells}
use Rattle.trace.proofs.Beginning.{output_begun}
use Rattle.trace_input.specs.Feeding.{PRINT}
use Rattle.trace_input.specs.Parts.{part_output, Parts, InputShows}

-- the bytes behind the header, as they are lent
abbrev behind_header : List ℕ → List ℕ
behind_header bs = take (length bs - HEADER) (drop HEADER bs)

behind_all : (bs : List ℕ) → behind_header bs ≡ drop HEADER bs
behind_all bs = take_all (length bs - HEADER) (drop HEADER bs) (rw length-drop (omega arith))

pub records_room : (bs : List ℕ) (room : ℕ) → length bs * PRINT + LONGEST ≤ room → length (behind_header bs) * PRINT + LONGEST ≤ room
records_room bs room fits = rw (behind_all bs, length-drop) (omega arith)

module _ (bs out' : List ℕ) (r : ℕ) (h : Result ℕ Word) (is : h ≡ header_of bs) where
  pub stops_whole : (w : Word) → h ≡ Err w → (out : List ℕ) → LONGEST ≤ length out' → Spells out 0 (text (Plain w)) LONGEST out' r → InputShows (output bs) out' r
  stops_whole w e out room spells = record {
    room = omega (arith, spells.short);
    printed = spells.writes.written ∙ sym (output_begun bs (Err w) (sym e ∙ is));
  }

  pub records_whole : (capacity : ℕ) → h ≡ Ok capacity → length bs < PART → InputShows (part_output (new_cache capacity) (behind_header bs)) out' r → InputShows (output bs) out' r
  records_whole capacity e short shown =
      let last : length (drop HEADER bs) < PART = rw length-drop (omega arith) in
      record {
        room = shown.room;
        printed = shown.printed ∙ rw (behind_all bs, lt-ltb (length (drop HEADER bs)) PART last) (sym (output_begun bs (Ok capacity) (sym e ∙ is)));
      }

-- a part that is all of a list
pub part_all : (t : CacheTables) (s : State) (bs : List ℕ) (t' : CacheTables) (s' : State) (out' : List ℕ) (r : ℕ) → Parts t s bs (length bs) t' s' out' r →
    (c : Cache) → CacheHolds t s c → InputShows (part_output c bs) out' r
part_all t s bs t' s' out' r p c h = record { room = p.room; printed = (p.prints c h).printed ∙ ap (part_output c) (take-length bs) }
