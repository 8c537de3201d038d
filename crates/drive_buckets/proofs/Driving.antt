-- From the promise of a public call to that of its operation. An operation that a function does not know is not one of its own, so that
-- what it names is what the next function promises of it.
use Rattle.std.proofs.Common.{◌≡◌, ℕ, List, subst, ne_eqb}
use mathlib.Core.Option.{Option, none, some}
use Rattle.ledger.specs.Buckets.{Reply}
use Rattle.ledger.specs.BucketCalls.{BucketCall}
use Rattle.promise.specs.Promise.{Makes}
use Rattle.levels.specs.Held.{Tabs}
use Rattle.buckets_tables.specs.declared.Guests.{Guests}
use Rattle.buckets_tables.specs.declared.State.{State}
use Rattle.buckets_tables.specs.Tables.{Tables}
use Rattle.buckets_tables.specs.Slices.{joined}
use Rattle.buckets_tables.specs.Lent.{buckets}
use Rattle.drive_lines.specs.declared.Told.{Told}
use Rattle.drive_lines.specs.Lines.{text, reply_text}
use Rattle.drive_buckets.specs.Operations.{query_call, epoch_call, decay_call, whole_call, bucket_call, batch_call, ShowsBuckets, DrivesBuckets}

module _ (t : Tables) (s : State) (told : Told) (t' : Tables) (s' : State) where
  -- the call that an operation names was made, and its line is told
  pub made : (f : ℕ → Option BucketCall) (code m : ℕ) (c : BucketCall) → f m ≡ some c → code ≡ m → (r : Reply) → text told ≡ reply_text r →
      Makes buckets c t s r t' s' → DrivesBuckets (f code) t s told t' s'
  made f code m c named e r line w = rw (e, named) (r, line, w)

  pub cleared : (f : ℕ → Option BucketCall) (code m : ℕ) (c : BucketCall) → f m ≡ some c → code ≡ m → ShowsBuckets c t s told t' s' → DrivesBuckets (f code) t s told t' s'
  cleared f code m c named e w = rw (e, named) w

  -- what another function promises of the operation
  pub sent : (o p : Option BucketCall) → o ≡ p → DrivesBuckets p t s told t' s' → DrivesBuckets o t s told t' s'
  sent o p e w = rw e w

-- Tables that are shown for reading are the tables that are lent

module _ (o : Option BucketCall) (e e' : List ℕ) (s : State) (told : Told) (s' : State) where
  pub guests_shown : (g g' : Guests (List ℕ)) → g ≡ g' → (l l' : Tabs) → DrivesBuckets o (joined g e l) s told (joined g e' l') s' →
      DrivesBuckets o (joined g' e l) s told (joined g' e' l') s'
  guests_shown g g' q l l' w = subst (λ (x : Guests (List ℕ)). DrivesBuckets o (joined x e l) s told (joined x e' l') s') q w

  pub levels_shown : (l l' : Tabs) → l ≡ l' → (g : Guests (List ℕ)) → DrivesBuckets o (joined g e l) s told (joined g e' l) s' →
      DrivesBuckets o (joined g e l') s told (joined g e' l') s'
  levels_shown l l' q g w = subst (λ (x : Tabs). DrivesBuckets o (joined g e x) s told (joined g e' x) s') q w

-- Operations of another kind

module _ (code a : ℕ) where
  pub no_query : (code ≡ 6 → ⊥) → (code ≡ 7 → ⊥) → (code ≡ 8 → ⊥) → (code ≡ 9 → ⊥) → (code ≡ 11 → ⊥) → (code ≡ 14 → ⊥) → (code ≡ 15 → ⊥) → (code ≡ 16 → ⊥) →
      (code ≡ 24 → ⊥) → (code ≡ 25 → ⊥) → query_call code a ≡ none
  no_query n6 n7 n8 n9 n11 n14 n15 n16 n24 n25 =
      rw (
        ne_eqb code 6 n6,
        ne_eqb code 7 n7,
        ne_eqb code 8 n8,
        ne_eqb code 9 n9,
        ne_eqb code 11 n11,
        ne_eqb code 14 n14,
        ne_eqb code 15 n15,
        ne_eqb code 16 n16,
        ne_eqb code 24 n24,
        ne_eqb code 25 n25,
      )

  module _ (b : ℕ) where
    pub no_epoch : (code ≡ 10 → ⊥) → (code ≡ 12 → ⊥) → (code ≡ 13 → ⊥) → epoch_call code a b ≡ query_call code a
    no_epoch n10 n12 n13 = rw (ne_eqb code 10 n10, ne_eqb code 12 n12, ne_eqb code 13 n13)

    pub no_decay : (code ≡ 17 → ⊥) → (code ≡ 18 → ⊥) → (code ≡ 22 → ⊥) → decay_call code a b ≡ epoch_call code a b
    no_decay n17 n18 n22 = rw (ne_eqb code 17 n17, ne_eqb code 18 n18, ne_eqb code 22 n22)

    pub not_whole : (code ≡ 19 → ⊥) → whole_call code a b ≡ decay_call code a b
    not_whole n19 = rw (ne_eqb code 19 n19)

    pub no_key : (code ≡ 1 → ⊥) → (code ≡ 2 → ⊥) → (code ≡ 3 → ⊥) → (code ≡ 4 → ⊥) → (code ≡ 5 → ⊥) → bucket_call code a b ≡ whole_call code a b
    no_key n1 n2 n3 n4 n5 = rw (ne_eqb code 1 n1, ne_eqb code 2 n2, ne_eqb code 3 n3, ne_eqb code 4 n4, ne_eqb code 5 n5)

pub no_batch : (code : ℕ) (ks : List ℕ) → (code ≡ 60 → ⊥) → (code ≡ 61 → ⊥) → (code ≡ 62 → ⊥) → batch_call code ks ≡ none
no_batch code ks n60 n61 n62 = rw (ne_eqb code 60 n60, ne_eqb code 61 n61, ne_eqb code 62 n62)
