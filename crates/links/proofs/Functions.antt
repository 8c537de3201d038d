-- Functions with a changed place and functions with an end. Two functions that agree everywhere are one, so a store is an equation.
use Rattle.std.proofs.Common.{◌≡◌, ℕ, ◌<◌, ◌≢◌, List, length, set, sym, refl, ap, ◌∙◌, get_or-set_other, get_or-set_same, eq-eqb, ne_eqb}
use native.Mathlib.Decide.{ℕ_discrete}
use Rattle.numbers.specs.Marks.{NONE}
use Rattle.links.specs.Chain.{cells}
use Rattle.links.specs.Ring.{upd, look}

pub upd_same : (f : ℕ → ℕ) (i v : ℕ) → upd f i v i ≡ v
unfolding upd
upd_same f i v = rw (eq-eqb i i refl)

pub upd_other : (f : ℕ → ℕ) (i v k : ℕ) → k ≢ i → upd f i v k ≡ f k
unfolding upd
upd_other f i v k h = rw (ne_eqb k i h)

-- a function that is known at i, and elsewhere
pub is_upd : (f g : ℕ → ℕ) (i v : ℕ) → g i ≡ v → ((k : ℕ) → k ≢ i → g k ≡ f k) → g ≡ upd f i v
is_upd f g i v e h = λ j k. at k (ℕ_discrete k i) j
  where
    at : (k : ℕ) → Dec (k ≡ i) → g k ≡ upd f i v k
    at k (yes q) = ap g q ∙ e ∙ sym (upd_same f i v) ∙ ap (upd f i v) (sym q)
    at k (no q) = h k q ∙ sym (upd_other f i v k q)

-- a store
pub cells_upd : (t : List ℕ) (i v : ℕ) → i < length t → cells (set t i v) ≡ upd (cells t) i v
cells_upd t i v l = is_upd (cells t) (cells (set t i v)) i v (get_or-set_same t i v 0 l) (λ k q. get_or-set_other t i k v 0 q)

pub look_end : (f : ℕ → ℕ) (e : ℕ) → look f e NONE ≡ e
unfolding look
look_end f e = refl

pub look_at : (f : ℕ → ℕ) (e k : ℕ) → k ≢ NONE → look f e k ≡ f k
unfolding look
look_at f e k h = rw (ne_eqb k NONE h)

-- another end
pub look_swap : (f : ℕ → ℕ) (e v : ℕ) → look f v ≡ upd (look f e) NONE v
look_swap f e v = is_upd (look f e) (look f v) NONE v (look_end f v) (λ k h. look_at f v k h ∙ sym (look_at f e k h))

-- a change inside
pub look_upd : (f : ℕ → ℕ) (e i v : ℕ) → i ≢ NONE → look (upd f i v) e ≡ upd (look f e) i v
unfolding look
look_upd f e i v h =
    is_upd (look f e) (look (upd f i v) e) i v (look_at (upd f i v) e i h ∙ upd_same f i v) (λ k q. rw (upd_other f i v k q))
