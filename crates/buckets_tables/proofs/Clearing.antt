-- Making tables, whatever they held: a table that is wiped, what `make` asks of the layers below, and that wiped tables with no list, an
-- empty index and all slots free hold a new ledger. Clearing sound tables is making them anew.
use Rattle.std.proofs.Common.{◌≡◌, ℕ, ◌+◌, ◌*◌, ◌<◌, ◌≤◌, List, [], length, set, refl, sym, ◌∙◌, subst, arith, replicate}
use lib.ListN.{get_or-eq_default}
use Rattle.std.proofs.lemmas.List.{get_or-replicate}
use Rattle.numbers.specs.Marks.{LIMIT}
use Rattle.lists.specs.Lists.{from}
use Rattle.lists.proofs.Tests.{by_lt}
use Rattle.lists.proofs.Members.{all_any, length_from}
use Rattle.ledger.specs.Buckets.{done, clear}
use Rattle.ledger.proofs.Changes.{new_formed}
use Rattle.promise.specs.Promise.{Does, Sound}
use Rattle.links.specs.Chain.{cells}
use Rattle.slot_arena.specs.Arena as arena
use Rattle.slot_arena.specs.declared.Order.{Order}
use Rattle.slot_arena.specs.Arena.{ArenaHolds}
use Rattle.bucket_table.specs.declared.Buckets.{Buckets}
use Rattle.bucket_table.specs.Records.{WORDS}
use Rattle.key_index.specs.Index as index
use Rattle.levels.specs.Held.{Even, tabs}
use Rattle.levels.specs.Calls.{LevelsReset}
use Rattle.buckets_tables.specs.declared.State.{State}
use Rattle.buckets_tables.specs.declared.Guests.{Guests}
use Rattle.buckets_tables.specs.Slices.{joined}
use Rattle.buckets_tables.specs.Tables.{Tables, Sized}
use Rattle.buckets_tables.specs.Holds.{Blank}
use Rattle.buckets_tables.specs.Calls.{Wiped, Fitting, Cleared}
use Rattle.buckets_tables.specs.Lent.{buckets}
use Rattle.buckets_tables.proofs.Asked.{sized_like}
use Rattle.buckets_tables.proofs.Doing.{does_done}

-- a table of zeros has 0 in every cell
pub zeros_wiped : (t t' : List ℕ) → t' ≡ replicate (length t) 0 → length t' ≡ length t → Wiped t t'
zeros_wiped t t' e size = record {
  size = size;
  zero = λ j. rw e (by_lt j (length t) (λ l. get_or-replicate (length t) j 0 0 l) (λ l. get_or-eq_default (replicate (length t) 0) 0 (rw (sym e) (omega (arith, size)))));
}

-- Tables that fit a capacity

-- the guests' tables among them
abbrev pub guests_of : Tables → Guests (List ℕ)
guests_of t = record { keys = t.keys; arena = t.arena; index = t.index }

-- whatever the bucket table has
pub sized_fitting : (t : Tables) (c : ℕ) → c ≤ LIMIT → Sized t c → Fitting (guests_of t) t.epochs t.freqs t.prevs t.nexts t.spares c
sized_fitting t c lim z = record {
  limit = lim;
  sized = λ b len. record {
    keys_size = z.keys_size;
    freqs_size = z.freqs_size;
    epochs_size = z.epochs_size;
    prevs_size = z.prevs_size;
    nexts_size = z.nexts_size;
    arena_size = z.arena_size;
    index_size = z.index_size;
    buckets_size = len;
    spares_size = z.spares_size;
  };
}

-- so do sound tables
pub sound_fitting : (t : Tables) (s : State) → Sound buckets t s → Fitting (guests_of t) t.epochs t.freqs t.prevs t.nexts t.spares s.capacity
sound_fitting t s w =
    let c = w.1.capacity in
    let lim = w.1.limit in
    sized_fitting t s.capacity (omega arith) (rw c w.1.sized)

module _ (g : Guests (List ℕ)) (e f p n sp : List ℕ) (c : ℕ) (fits : Fitting g e f p n sp c) where
  -- What is asked

  -- with some bucket table of the right size
  some_sized : Sized (joined g e (tabs f p n (from 0 (c * WORDS)) sp)) c
  some_sized = fits.sized (from 0 (c * WORDS)) (length_from 0 (c * WORDS))

  pub fitting_even : Even f p n × (length sp ≡ length f)
  fitting_even =
      let z = some_sized in
      let cf = z.freqs_size in
      let cp = z.prevs_size in
      let cn = z.nexts_size in
      let cs = z.spares_size in
      let lim = fits.limit in
      (record { limit = omega arith; prevs_size = omega arith; nexts_size = omega arith }, omega arith)

  pub fitting_arena : length g.arena ≤ LIMIT
  fitting_arena = let ca = some_sized.arena_size in let lim = fits.limit in omega arith

  -- What is made

  pub made : (g' : Guests (List ℕ)) (e' f' p' n' sp' : List ℕ) (o : Order) (bk : Buckets) → Wiped g.keys g'.keys → Wiped e e' → LevelsReset f f' p' n' sp' bk → index.Clears g.index g'.index → arena.Filled g.arena g'.arena o →
      length f' ≡ length f → length p' ≡ length p → length n' ≡ length n → length sp' ≡ length sp →
      Cleared g' e' f' p' n' sp' c (record { capacity = c; count = 0; lowest = 0; epoch = 0; free = o; buckets = bk })
  made g' e' f' p' n' sp' o bk no_keys no-epochs no-lists no_index all_free lf lp ln ls b len =
      let z = fits.sized b len in
      let ks : length g'.keys ≡ c = no_keys.size ∙ z.keys_size in
      let is : length g.index ≡ length g'.keys + length g'.keys = (let q = z.index_size in omega arith) in
      record {
        formed = new_formed c;
        limit = fits.limit;
        capacity = refl;
        sized =
            sized_like (joined g e (tabs f p n b sp)) c z g'.keys f' e' p' n' g'.arena g'.index b sp' no_keys.size lf no-epochs.size lp ln all_free.size no_index.size refl ls;
        count = refl;
        lowest = refl;
        epoch = refl;
        slots = [];
        lists = no-lists.holds b (let q = z.freqs_size in rw q len);
        entries = refl;
        free = subst (λ (m : ℕ). ArenaHolds g'.arena o (from 0 m)) z.arena_size all_free.holds;
        zeros = all_any (Blank g'.keys e') (λ x. (no_keys.zero x, no-epochs.zero x)) (from 0 c);
        index_sound = no_index.sound g'.keys (let q = fits.limit in omega arith) is;
        indexed = λ x. (λ has. absurd (no_index.none g'.keys is x has), λ q. absurd (omega arith));
      }

-- Tables that are made anew at the capacity of sound ones hold what the ledger's `clear` gives
pub clear_does : (t : Tables) (s : State) (g' : Guests (List ℕ)) (e' f' p' n' sp' : List ℕ) (s' : State) → Cleared g' e' f' p' n' sp' s.capacity s' →
    Does buckets clear t s (done []) (joined g' e' (tabs f' p' n' t.buckets sp')) s'
unfolding clear
clear_does t s g' e' f' p' n' sp' s' made-new =
    does_done clear t s [] (joined g' e' (tabs f' p' n' t.buckets sp')) s' (λ l h. refl)
    (λ l h.
    let c = h.capacity in
    let z = h.sized.buckets_size in
    rw c at (made-new t.buckets (rw c z)))
