-- A narrowed image is as sound as it was, and what is read of it is within what was read.
use Rattle.std.proofs.Common.{◌≡◌, ◌∙◌, inl, inr, ℕ, ◌<◌, ◌/◌, arith, Bool, not, List, refl, sym, ap, subst}
use Rattle.std.specs.Prelude.{Contains}
use Rattle.std.proofs.lemmas.Bool.{and_parts, and_from}
use Rattle.vx_config_parts.specs.declared.state.VolState.{VolState}
use Rattle.vx_config_parts.specs.declared.state.VolState.TheVariants as vol
use Rattle.vx_image.specs.Image.{Image, LogCopy, regions_of, has_no_copy, is_marked_by_all}
use Rattle.vx_image.specs.Soundness.{IsChoiceOfMarks, IsSoundBy, IsSoundImage, MayDiffer}
use Rattle.vx_image.specs.Narrowing.{EachImageIsNarrowed, EachNarrowedIsRead, EachNarrowedIsSound, EachNarrowedPairIsSound, EachNarrowingGoesOn, IsNarrowed}

pub narrowed_self : EachImageIsNarrowed
narrowed_self v = record { same = refl; none = refl; all = λ r k inside e. e; some = λ r k inside e. e }

-- as many regions
same_regions : (old new : Image) → IsNarrowed old new → regions_of new ≡ regions_of old
same_regions old new narrow = ap regions_of narrow.same

pub narrowed_on : EachNarrowingGoesOn
narrowed_on u v w first then =
    let inside : (r : ℕ) → r < regions_of u → r < regions_of v = λ r low. subst (λ n. r < n) (sym (same_regions u v first)) low in
    record {
      same = then.same ∙ ap (λ (x : Image). record x { copies = w.copies }) first.same;
      none = then.none ∙ first.none;
      all = λ r k low e. then.all r k (inside r low) (first.all r k low e);
      some = λ r k low e. first.some r k low (then.some r k (inside r low) e);
    }

-- a choice of the marks that are left is one of those that were
pub choice_was : (old new : Image) → IsNarrowed old new → (r : ℕ) → r < regions_of old → (B : ℕ → Bool) → IsChoiceOfMarks new r B → IsChoiceOfMarks old r B
choice_was old new narrow r low B choice = record { least = λ k e. choice.least k (narrow.all r k low e); most = λ k e. narrow.some r k low (choice.most k e) }

may_differ : (copies : List LogCopy) (v : Image) (state : VolState) (B : ℕ → Bool) → MayDiffer state v B → MayDiffer state (record v { copies = copies }) B
may_differ copies v vol.Empty B may = tt
may_differ copies v vol.Clean B may = absurd may
may_differ copies v vol.Active B may = record { dirty = may.dirty; stale = may.stale }
may_differ copies v vol.NeedSync B may = record { dirty = may.dirty; stale = may.stale }
may_differ copies v vol.Sync B may = record { dirty = may.dirty; stale = may.stale }

-- a region is as sound with other copies, by the same choice
sound_by : (copies : List LogCopy) (v : Image) (r : ℕ) (B : ℕ → Bool) → IsSoundBy v r B → IsSoundBy (record v { copies = copies }) r B
sound_by copies v r B is = record {
  unmarked = is.unmarked;
  agree = elim is.agree [ inl agree ↦ inl agree | inr may ↦ inr (may_differ copies v v.state B may) ];
  tracked = is.tracked;
}

pub narrowed_sound : EachNarrowedIsSound
narrowed_sound old new narrow sound =
    subst IsSoundImage (sym narrow.same) (λ r B low choice. sound_by new.copies old r B (sound r B low
    (choice_was old new narrow r low B (subst (λ (x : Image). IsChoiceOfMarks x r B) (sym narrow.same) choice))))

-- .. and with another one too
pub narrowed_pair : EachNarrowedPairIsSound
narrowed_pair v v' m w w' n few first then sound r B C low choice chosen clear none p q one other b inside here =
    let low_then : r < regions_of v = subst (λ k. r < k) (same_regions v v' first) low in
    sound r B C low_then (choice_was v v' first r low_then B choice) (choice_was w w' then r (omega (arith, low_then, few)) C chosen) clear none p q
    (record { of = subst (λ (x : Image). Contains x.plexes p) first.same one.of; held = one.held; unmarked = one.unmarked })
    (record { of = subst (λ (x : Image). Contains x.plexes q) then.same other.of; held = other.held; unmarked = other.unmarked })
    b (subst (λ (x : Image). b < x.length) first.same inside) (subst (λ (x : Image). b / x.region ≡ r) first.same here)

pub narrowed_read : EachNarrowedIsRead
narrowed_read old new narrow = record {
  sure = λ r k low e. let two = and_parts (not (has_no_copy old)) (is_marked_by_all old r k) e in and_from (not (has_no_copy new)) (is_marked_by_all new r k) (ap not narrow.none ∙ two.0) (narrow.all r k low two.1);
  possible = narrow.some;
  dirty = λ r low e. narrow.some r 30 low e;
}
