-- The check. The walk of the records builds rows from the table as it goes, and stumbles only where there can be no rows; the count of the arena's marks
-- says that no record in use was missed.
use mathlib.Core.Path.{◌≡◌, refl, sym, ap, ◌∙◌, subst}
use mathlib.Core.Bool.{false}
use mathlib.Core.Logic.{◌≢◌}
use mathlib.Core.List.{List, [], ◌∷◌, ◌++◌, map, append_assoc, append-nil, map-append}
use Prim.Native.Nat.{ℕ, ◌+◌, ◌<◌, ◌≤◌, ◌-◌}
use native.Mathlib.Omega.{arith}
use lib.ListN.{length, length-append}
use lib.Dec.{eqb}
use borrow.Author.Tests.{eq-eqb, eqb-true}
use Rattle.numbers.specs.Marks.{NONE}
use Rattle.lists.specs.Lists.{All}
use Rattle.lists.proofs.Tests.{neither}
use Rattle.lists.proofs.Members.{all_any, all_append, all_mid, all_right}
use Rattle.lists.proofs.Maps.{all_images, images_all}
use Rattle.links.proofs.Functions.{look_end, look_at}
use Rattle.links.proofs.Walks.{Walk, walk_start, walk_on, walk_next, walk_end, walk_whole}
use Rattle.slot_arena.specs.Arena.{InUse}
use Rattle.slot_arena.specs.Check.{used_in}
use Rattle.slot_arena.proofs.Check.{others_counted}
use Rattle.bucket_table.specs.declared.Buckets.{Buckets}
use Rattle.bucket_table.specs.Records.{frequency, lower, higher, up, down, Row, nums, Written, row_of, RecordsHold, RecordsSound, RowsRise}
use Rattle.bucket_table.specs.Check.{RecordOk, RecordsWalk, RecordsSized}
use Rattle.bucket_table.proofs.Rows.{clear, rising_around}
use Rattle.bucket_table.proofs.One.{rows_of}

-- ---- one record

-- ---- the walk

-- the records passed, of which `low` is the last frequency, and how many may still come
pub record Climb (b sp : List ℕ) (s : Buckets) (used number at low left : ℕ) : Type 0 where
  pub passed : List ℕ
  pub walk : Walk (up b s) (down b s) passed at number
  pub marks : All (InUse sp) passed
  pub rises : (ws : List Row) → RowsRise low ws → RowsRise 0 (map (row_of b) passed ++ ws)
  pub low_is : (g : ℕ) → 0 < g → All (λ r. frequency b r < g) passed → low < g
  pub spent : left + length passed ≡ used

pub climb_start : (b sp : List ℕ) (s : Buckets) (used : ℕ) → Climb b sp s used s.bottom NONE 0 used
climb_start b sp s used = record {
  passed = [];
  walk = subst (Walk (up b s) (down b s) [] NONE) (look_end (higher b) s.bottom) (walk_start (up b s) (down b s));
  marks = tt;
  rises = λ ws r. r;
  low_is = λ g z h. z;
  spent = omega arith;
}

-- the arena has as many slots in use as there are rows
used_many : (b sp : List ℕ) (s : Buckets) (ws : List Row) → RecordsHold b sp s ws → used_in sp ≡ length (nums ws)
used_many b sp s ws h =
    let free = h.uses.sound.1 in
    let m = h.uses.many in
    omega (arith, others_counted sp s.spare.first h.uses.sound.0 free.limit free.chain free.others)

nums_of : (b : List ℕ) (rs : List ℕ) → nums (map (row_of b) rs) ≡ rs
nums_of b [] = refl
nums_of b (r ∷ rs) = ap (λ (l : List ℕ). r ∷ l) (nums_of b rs)

module _ (b sp : List ℕ) (s : Buckets) (used number at low left : ℕ) (w : Climb b sp s used number at low left) where
  -- what comes next in rows that there may be
  next : number ≢ NONE → (ws : List Row) → RecordsHold b sp s ws → RecordOk b sp low at number × (length w.passed + 1 ≤ length (nums ws))
  next ne ws h =
      let q = walk_next (up b s) (down b s) w.passed at number w.walk ne (nums ws) (clear b sp s ws h) h.ring in
      let e : ws ≡ map (row_of b) w.passed ++ row_of b number ∷ map (row_of b) q.0 =
      rows_of b ws h.each ∙ ap (map (row_of b)) q.1 ∙ map-append (row_of b) w.passed (number ∷ q.0) in
      let ri = rising_around 0 (map (row_of b) w.passed) (row_of b number) (map (row_of b) q.0) (subst (RowsRise 0) e h.rising) in
      let n = ap length q.1 in (
        record {
          used = (all_mid (InUse sp) w.passed number q.0 (subst (All (InUse sp)) q.1 h.uses.marks)).0;
          back = sym (look_at (lower b) s.top number ne) ∙ q.2;
          above = w.low_is (frequency b number) ri.1 (images_all (row_of b) (λ u. u.freq < frequency b number) w.passed ri.0);
          ceiling = ri.2;
        },
        omega (arith, length-append w.passed (number ∷ q.0)),
      )

  refuse : (used_in sp ≡ used → RecordsSound b sp s → ⊥) → RecordsWalk b sp s used false
  refuse f = record { good = λ _ _ q. absurd (neither false q refl); all = λ e k. absurd (f (sym e) k) }

  pub walk_short : left ≡ 0 → number ≢ NONE → RecordsWalk b sp s used false
  walk_short e ne = refuse (λ u k. let n = (next ne k.0 k.1).1 in let m = used_many b sp s k.0 k.1 in let p = w.spent in omega arith)

  pub walk_bad : number ≢ NONE → (RecordOk b sp low at number → ⊥) → RecordsWalk b sp s used false
  walk_bad ne bad = refuse (λ u k. bad (next ne k.0 k.1).0)

  pub climb_on : RecordsSized b sp → RecordOk b sp low at number → left ≢ 0 → (f n : ℕ) → f ≡ frequency b number → n ≡ up b s number → Climb b sp s used n number f (left - 1)
  climb_on z k nl f n ef en =
      let i = k.used.0 in let l = z.limit in let p = w.spent in
      let ne : number ≢ NONE = omega arith in
      record {
        passed = w.passed ++ number ∷ [];
        walk = subst (Walk (up b s) (down b s) (w.passed ++ number ∷ []) number) (sym en) (walk_on (up b s) (down b s) w.passed at number w.walk ne (look_at (lower b) s.top number ne ∙ k.back));
        marks = all_append (InUse sp) w.passed (number ∷ []) w.marks (k.used, tt);
        rises = λ ws r.
            rw (map-append (row_of b) w.passed (number ∷ []), append_assoc) (w.rises (row_of b number ∷ ws) (k.above, k.ceiling, rw ef at r));
        low_is = λ g z h. rw ef (all_right (λ r. frequency b r < g) w.passed (number ∷ []) h).0;
        spent = omega (arith, length-append w.passed (number ∷ []));
      }

  pub walk_left : number ≡ NONE → left ≢ 0 → RecordsWalk b sp s used false
  walk_left e nl =
      refuse (λ u k.
      let q = walk_whole (up b s) (down b s) w.passed at number w.walk e (nums k.0) (clear b sp s k.0 k.1) k.1.ring in
      let n = ap length q.0 in let m = used_many b sp s k.0 k.1 in let p = w.spent in
      omega arith)

  pub walk_done : RecordsSized b sp → number ≡ NONE → left ≡ 0 → RecordsWalk b sp s used (eqb s.top at)
  walk_done z e el = record {
    good = λ u so q.
        let en = nums_of b w.passed in let n = ap length en in let p = w.spent in
        let free = so.1 in (
          map (row_of b) w.passed,
          record {
            size = z.size;
            ring = rw en (walk_end (up b s) (down b s) w.passed at number w.walk e (look_end (lower b) s.top ∙ eqb-true s.top at q));
            uses = record {
              sound = so;
              many = omega (arith, others_counted sp s.spare.first so.0 free.limit free.chain free.others);
              marks = rw en w.marks;
            };
            each = all_images (row_of b) (Written b) w.passed (all_any (λ r. Written b (row_of b r)) (λ r. record { freq_is = refl; head_is = refl; tail_is = refl; count_is = refl }) w.passed);
            rising = rw append-nil at (w.rises [] tt);
          },
        );
    all = λ u k.
        eq-eqb s.top at
        (sym (look_end (lower b) s.top) ∙ (walk_whole (up b s) (down b s) w.passed at number w.walk e (nums k.0) (clear b sp s k.0 k.1) k.1.ring).1);
  }
