-- Tables of the cache that are made or cleared: the buckets' own tables are made by the layer below, and wiped values are those of a
-- new cache.
use Rattle.std.proofs.Common.{◌≡◌, refl, sym, ap, ◌∙◌, List, [], ◌∷◌, ℕ, suc, length, get_or, replicate, Result, Ok}
use Rattle.numbers.specs.declared.Refusal.{Refusal}
use Rattle.ledger.specs.Buckets as replies
use Rattle.ledger.specs.Cache.{new_cache, cache_clear}
use Rattle.ledger.specs.History.{Clear, does}
use Rattle.ledger.specs.CacheCalls.{cache_calls}
use Rattle.ledger.proofs.CacheKept.{new_cache_formed}
use Rattle.ledger.proofs.Refusals.{done_refused}
use Rattle.promise.specs.Promise.{Does, Sound}
use Rattle.promise.specs.Making.{Measures, Made}
use Rattle.promise.proofs.Makings.{fits_done, made_done}
use Rattle.levels.specs.Held.{tabs}
use Rattle.buckets_tables.specs.declared.State.{State}
use Rattle.buckets_tables.specs.declared.Guests.{Guests}
use Rattle.buckets_tables.specs.Slices.{joined}
use Rattle.buckets_tables.specs.Calls.{Fitting, Cleared, Wiped}
use Rattle.buckets_tables.proofs.Clearing.{guests_of, sized_fitting, sound_fitting}
use Rattle.cache_tables.specs.Tables.{CacheTables, with_values}
use Rattle.cache_tables.specs.Lent.{cache}
use Rattle.cache_tables.proofs.Asking.{base_sound}
use Rattle.lfu_make.specs.Calls.{CacheCleared}

-- What is asked

abbrev pub CacheFitting : CacheTables → ℕ → Type 0
CacheFitting t c =
    let b = t.base in
    Fitting (guests_of b) b.epochs b.freqs b.prevs b.nexts b.spares c × (length t.values ≡ c)

pub sound_fits : (t : CacheTables) (s : State) → Sound cache t s → CacheFitting t s.capacity
sound_fits t s w =
    (sound_fitting t.base s (base_sound t s w), ap (λ (us : List ℕ). length us) w.1.values ∙ w.1.formed.fits ∙ sym w.1.table.capacity)

-- What is made

all_zeros : (vs : List ℕ) → ((i : ℕ) → ◌≡◌ {A = ℕ} (get_or vs i 0) 0) → vs ≡ replicate (length vs) 0
all_zeros [] z = refl
all_zeros (v ∷ vs) z = λ i. z 0 i ∷ all_zeros vs (λ k. z (suc k)) i

pub cleared : (g : Guests (List ℕ)) (e f p n sp vs vs' : List ℕ) (c : ℕ) (s : State) → Cleared g e f p n sp c s → length vs ≡ c → Wiped vs vs' →
    CacheCleared g e f p n sp vs' c s
cleared g e f p n sp vs vs' c s made len wiped b l = record {
  table = made b l;
  values = all_zeros vs' wiped.zero ∙ ap (λ (m : ℕ). replicate m 0) (wiped.size ∙ len);
  formed = new_cache_formed c;
}

-- `new`, by what the lengths come to

module _ (t : CacheTables) (c : ℕ) (a : Result Unit Refusal) (m : Measures cache t c a) (u : Unit) (e : a ≡ Ok u) where
  pub fitting : CacheFitting t c
  fitting = let w = fits_done cache t c a m u e in (sized_fitting t.base c w.0 w.1.0, w.1.1)

  pub makes_new : (g : Guests (List ℕ)) (es f p n sp vs : List ℕ) (s : State) → CacheCleared g es f p n sp vs c s →
      Made cache (new_cache c) c t (Ok s) (with_values (joined g es (tabs f p n t.base.buckets sp)) vs)
  makes_new g es f p n sp vs s made =
      made_done cache t c a m (new_cache c) _ s u e (made t.base.buckets (fits_done cache t c a m u e).1.0.buckets_size)

-- `clear`

pub clear_does : (t : CacheTables) (s : State) (g : Guests (List ℕ)) (e f p n sp vs : List ℕ) (s' : State) →
    CacheCleared g e f p n sp vs s.capacity s' →
    Does cache (cache_calls Clear) t s (replies.done []) (with_values (joined g e (tabs f p n t.base.buckets sp)) vs) s'
unfolding cache_calls does cache_clear
clear_does t s g e f p n sp vs s' made c h =
    let cap = h.table.capacity in
    record {
      answer = refl;
      holds = rw cap at (made t.base.buckets (rw cap h.table.sized.buckets_size));
      leaves = λ b e. done_refused [] b e;
    }
