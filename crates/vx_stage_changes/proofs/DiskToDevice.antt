-- What a commit leaves of a disk, as what it may leave of a device.
use Rattle.std.proofs.Common.{◌≡◌, ◌∙◌, ◌⊎◌, inl, inr, ℕ, ◌-◌, ◌≤◌, List, Option, Some, None, refl, sym, ap, subst, arith}
use Rattle.std.specs.Prelude.{MatchOption, replicate}
use Rattle.vx_base.specs.Blocks.{Contents}
use Rattle.vx_base.specs.Named.{Word}
use Rattle.vx_header.specs.Named.{Label, header_of}
use Rattle.vx_header.specs.Said.{Said}
use Rattle.vx_sector.specs.Fields.{zeros}
use Rattle.vx_copies.specs.Disks.{DiskSeen, NamesHalf}
use Rattle.vx_copies.specs.Image.{toggle_at}
use Rattle.vx_copies.specs.Written.{BothTell, Touches, Turns, HalfStays, OldOrText}
use Rattle.vx_copies.specs.Written.{IsTurned as IsTurnedIn}
use Rattle.vx_confdb.specs.Enlisted.{Enlists, Comes, BehindOldOrText}
use Rattle.vx_confdb.specs.Prepare.{label_in}
use Rattle.vx_moments.specs.Copies.{KeepsToggle, IsTurned, IsStruck, IsEntered}

pub both_at : (R : Contents → Contents → Type 0) (t u : Option Contents) (c d : Contents) → BothTell R t u → t ≡ Some c → u ≡ Some d → R c d
both_at R t u c d both e f = subst (λ x. BothTell R x (Some d)) e (subst (BothTell R t) f both)

named_half : (half : ℕ) (c d : Contents) (o : Option Said) → MatchOption o (Unit {0}) (λ t. t.half ≡ half) → HalfStays half c d → MatchOption o (Unit {0}) (λ t. HalfStays t.half c d)
named_half half c d None names stays = tt
named_half half c d (Some t) names stays = subst (λ h. HalfStays h c d) (sym names) stays

blank_is : zeros 512 ≡ replicate 512 0
unfolding zeros
blank_is = refl

module _ (first last last' : ℕ) (up : last ≤ last') (text : List ℕ) (Masks Masks' : ℕ → Type 0) (masks : (mask : ℕ) → Masks mask → Masks' mask) where
  turned : (half : ℕ) (d : Contents) → IsTurnedIn first last text Masks half d → IsTurned first last' Masks' text d
  turned half d is = record {
    sequence = is.sequence;
    mask = is.mask;
    half = half;
    from = is.from;
    up_to = let x = is.up_to in omega (arith, x, up);
    masks = masks is.mask is.masks;
    says = is.says;
    holds = is.holds;
  }

  -- a good disk
  pub struck : (a b : DiskSeen) (c d : Contents) → Touches first last text Masks a b → a.seen.told ≡ Some c → b.seen.told ≡ Some d → NamesHalf a.half a.seen.told → IsStruck first last' Masks' text c d
  struck a b c d touches told tells names = record {
    only = both_at (OldOrText text) a.seen.told b.seen.told c d touches.only told tells;
    front = by (both_at (Turns first last text Masks a b) a.seen.told b.seen.told c d touches.turns told tells);
  }
    where
      by : Turns first last text Masks a b c d → KeepsToggle c d ⊎ IsTurned first last' Masks' text d
      by (inl kept) = inl (record { toggle = kept.toggle; named = named_half a.half c d (toggle_at c) (subst (NamesHalf a.half) told names) kept.named })
      by (inr (inl once)) = inr (turned (1 - a.half) d once.turned)
      by (inr (inr again)) = inr (turned again.now d again.turned)

  same_comes : (label : Label) (c d : Contents) → Comes label first last text Masks c d
      → ((k : ℕ) → d k ≡ c k) ⊎ (((d 0 ≡ c 0) × (d 1 ≡ replicate 512 0)) ⊎ ((header_of (d 0) ≡ Some label) × ((d 1 ≡ replicate 512 0) ⊎ IsTurned first last' Masks' text d)))
  same_comes label c d (inl same) = inl (λ k. ap (λ (x : Contents). x k) same)
  same_comes label c d (inr (inl blank)) = inr (inl (blank.0, blank.1 ∙ blank_is))
  same_comes label c d (inr (inr (header, inl blank))) = inr (inr (header, inl (blank ∙ blank_is)))
  same_comes label c d (inr (inr (header, inr to))) = inr (inr (header, inr (turned to.half d to.turned)))

  -- a disk that joins
  pub entered : (group : Word) (a b : DiskSeen) (c d : Contents) → Enlists group first last text Masks a b → a.seen.told ≡ Some c → b.seen.told ≡ Some d → IsEntered (label_in group a) first last' Masks' text c d
  entered group a b c d enlists told tells = record {
    behind = both_at (BehindOldOrText text) a.seen.told b.seen.told c d enlists.only told tells;
    front = same_comes (label_in group a) c d (both_at (Comes (label_in group a) first last text Masks) a.seen.told b.seen.told c d enlists.comes told tells);
  }
