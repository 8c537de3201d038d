-- From the start of the reader on any tables to the line that is printed. Where the start is not refused the tables hold a ledger, and the
-- reader shows the ledger's list, which is no longer than the table of keys.
use mathlib.Core.Path.{◌≡◌, refl, sym, ap, ◌∙◌, subst}
use mathlib.Core.Bool.{false}
use mathlib.Core.List.{List, [], ◌∷◌, ◌++◌}
use Rattle.std.proofs.Common.{Option, Result, Ok, Err}
use Rattle.std.specs.Result.{is_err}
use Prim.Native.Nat.{ℕ, ◌+◌, ◌*◌, ◌≤◌, ◌<◌}
use native.Mathlib.Omega.{arith}
use lib.ListN.{length}
use Rattle.numbers.specs.Marks.{LIMIT}
use Rattle.numbers.specs.Answer.{DONE}
use Rattle.numbers.specs.declared.Refusal.{Refusal}
use Rattle.numbers.specs.declared.Slot.{Slot}
use Rattle.numbers.specs.declared.Refusal.TheVariants.{Corrupt, Short, Capacity}
use Rattle.lists.specs.Lists.{All, In}
use Rattle.lists.proofs.Tests.{if_eq}
use Rattle.lists.proofs.Members.{in_all}
use Rattle.ledger.specs.Ledger.{Entry, Level, Ledger, Item, tag, items}
use Rattle.ledger.specs.Buckets.{refused}
use Rattle.ledger.specs.Walk.{list_of, head, start}
use Rattle.ledger.proofs.Slots.{size_and_free}
use Rattle.ledger.proofs.Walked.{list_of_in}
use Rattle.promise.specs.Promise.{over, short, corrupt, ledger, Reads, Promised}
use Rattle.buckets_tables.specs.declared.State.{State}
use Rattle.buckets_tables.specs.Tables.{Tables, tables}
use Rattle.buckets_tables.specs.Lent.{buckets}
use Rattle.buckets_tables.proofs.Found.{Stands, stands}
use Rattle.answers.specs.Replies.{reached_reply}
use Rattle.buckets_walk.specs.Walks.{slot_of}
use Rattle.frequency_buckets_walker.specs.declared.Stand.{Stand}
use Rattle.frequency_buckets_walker.specs.Walks.{shows, Starts, Shows}
use Rattle.frequency_buckets_walker.proofs.Places.{stands_held}
use Rattle.frequency_buckets_walker.proofs.Shown.{walker_shows}
use Rattle.trace.specs.Lines.{DIGITS, FEED, decimal}
use Rattle.trace.specs.Written.{Writes, Spells}
use Rattle.trace.proofs.Writing.{spells_then, spelled, spells_more}
use Rattle.drive_lines.specs.declared.Told.TheVariants.{Refused}
use Rattle.drive_lines.specs.Lines.{text, LONGEST_TOLD}
use Rattle.drive_walk.specs.Walk.{items_text, ITEM, WALK, Listable, Placed, Says, Lists, WalkPrints}

-- The list is short

tag_length : (f : ℕ) (es : List Entry) (xs : List Item) → length (tag f es xs) ≡ length es + length xs
tag_length f [] xs = omega arith
tag_length f (e ∷ es) xs = let ih = tag_length f es xs in omega arith

list_short : (g : ℕ) (ls : List Level) → length (list_of g ls) ≤ length (items ls)
list_short g [] = omega arith
list_short g (l ∷ ls) =
    let ih = list_short g ls in
    let all = tag_length l.frequency l.entries (items ls) in
    let own = tag_length g l.entries [] in
    if_eq (λ z. length z ≤ length (items (l ∷ ls))) l.frequency g (λ e. omega arith) (λ d. omega arith)

-- Refusals

-- the answers that are none
unrefused : (a : Result (Option Slot) Refusal) → ((w : Refusal) → a ≡ Err w → ⊥) → is_err a ≡ false
unrefused (Ok x) h = refl
unrefused (Err w) h = absurd (h w refl)

-- no list begins with one
head_unrefused : (xs : List Item) (w : Refusal) → reached_reply (slot_of (head xs)) ≡ refused w → ⊥
head_unrefused [] w q = let c : ◌≡◌ {A = ℕ} 0 1 = cc in omega arith
head_unrefused (x ∷ xs) w q = let c : ◌≡◌ {A = ℕ} 0 1 = cc in omega arith

module _ (t : Tables) (s : State) (g : ℕ) (first : Stand) (w : Refusal) (is : reached_reply first.answer ≡ refused w) (out : List ℕ) (at : ℕ) (out' : List ℕ) (r : ℕ) where
  alone : Spells out at (text (Refused w)) LONGEST_TOLD out' r → (v : Refusal) → reached_reply first.answer ≡ refused v → Spells out at (text (Refused v)) WALK out' r
  alone wrote v q =
      let same : w ≡ v = cc in
      subst (λ (z : Refusal). Spells out at (text (Refused z)) WALK out' r) same (spells_more out at (text (Refused w)) out' r LONGEST_TOLD WALK (omega arith) wrote)

  pub refuses : Starts t s g first → Spells out at (text (Refused w)) LONGEST_TOLD out' r → WalkPrints g t s out at out' r
  unfolding start
  refuses starts wrote = go starts.promised
    where
      go : Promised buckets (λ l. shows (start g l) l) t s (reached_reply first.answer) t s → WalkPrints g t s out at out' r
      go (over, reads, d) = (over, reads, alone wrote Capacity d.answer)
      go (short, reads, d) = (short, reads, alone wrote Short d.answer)
      go (corrupt, reads, d) = (corrupt, reads, alone wrote Corrupt d.answer)
      go (ledger l, reads, d) = absurd (head_unrefused (list_of g l.levels) w (sym d.answer ∙ is))

-- Lists

-- the slot that begins a list of slots that have a place
begins_placed : (k n : List ℕ) (first : Stand) (xs : List Item) → All (λ x. x.slot < length k) xs → Shows n first xs → Placed k first
begins_placed k n first [] below h x q = let z = h.0 in let c : ◌≡◌ {A = ℕ} 0 1 = cc in absurd (omega arith)
begins_placed k n first (y ∷ ys) below h x q = let z = h.0 in let there : x ≡ record { 0 = y.slot } = cc in rw there below.0

module _ (k f e p n a i b sp : List ℕ) (s : State) (g : ℕ) (first : Stand) where
  -- what a start that is not refused has found
  pub record Found : Type 0 where
    pub held : Ledger
    pub reads : Reads buckets (tables k f e p n a i b sp) s (ledger held)
    pub limited : length k ≤ LIMIT
    pub listable : Listable k e n
    pub placed : Placed k first
    pub listed : (out : List ℕ) (at : ℕ) (out' : List ℕ) (r : ℕ) → Lists k e n first out at out' r →
        Spells out at (items_text (list_of g held.levels)) (LIMIT * ITEM) out' r

  pub found : Starts (tables k f e p n a i b sp) s g first → (q : Result (Option Slot) Refusal) → q ≡ first.answer → ((w : Refusal) → q ≡ Err w → ⊥) → Found
  found starts q is unsaid =
      let t = tables k f e p n a i b sp in
      let w = stands_held t s (start g) first (sym (ap is_err is) ∙ unrefused q unsaid) starts in
      let l = w.0 in
      let h = w.1.2 in
      let xs = list_of g l.levels in
      let small : length k ≤ LIMIT = omega (arith, w.1.0, w.1.1.keys_size) in
      let shown = walker_shows k f e p n a i b sp s l h g first starts in
      let there : (x : Item) → In x xs → Stands t s l h x x.slot = λ x j. stands t s l h x (list_of_in g l.levels x j) in
      record {
        held = l;
        reads = w.1;
        limited = small;
        listable = (f, p, a, i, b, sp, s, (l, h));
        placed = begins_placed k n first xs (in_all (λ x. x.slot < length k) xs (λ x j. omega (arith, (there x j).below, h.sized.keys_size))) shown;
        listed = λ out at out' r z. record {
          writes = z.writes xs shown (in_all (Says k e) xs (λ x j. ((there x j).key, (there x j).epoch)))
              (omega (arith, list_short g l.levels, size_and_free l h.formed, h.sized.keys_size));
          short = omega (arith, z.room, small);
        };
      }

  pub printed : Found → (out : List ℕ) (at : ℕ) (b₁ : List ℕ) (j₁ : ℕ) (b₂ : List ℕ) (j₂ : ℕ) (out' : List ℕ) (r : ℕ) → Spells out at (decimal DONE) DIGITS b₁ j₁ →
      Lists k e n first b₁ j₁ b₂ j₂ → Writes b₂ j₂ (FEED ∷ []) out' r → WalkPrints g (tables k f e p n a i b sp) s out at out' r
  printed w out at b₁ j₁ b₂ j₂ out' r zero list feed =
      let xs = items_text (list_of g w.held.levels) in
      let rest = spells_then b₁ j₁ xs b₂ j₂ (FEED ∷ []) out' r (LIMIT * ITEM) 1 (w.listed b₁ j₁ b₂ j₂ list) (spelled b₂ j₂ (FEED ∷ []) out' r 1 (omega arith) feed) in
      (ledger w.held, w.reads, spells_then out at (decimal DONE) b₁ j₁ (xs ++ (FEED ∷ [])) out' r DIGITS (LIMIT * ITEM + 1) zero rest)
