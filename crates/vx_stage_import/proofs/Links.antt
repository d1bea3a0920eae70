-- What the devices that were found give is what those that count give.
use Rattle.std.proofs.Common.{◌≡◌, ◌≢◌, ◌∙◌, ◌&&◌, ◌||◌, ◌==◌, ℕ, zero, suc, ◌+◌, ◌-◌, ◌<◌, ◌≤◌, Bool, true, false, cond, not, is_some, is_none, List, [], ◌∷◌, take, replicate, Option, Some, None, refl, sym, ap, subst, arith, inl, inr}
use Rattle.std.specs.Prelude.{IfSome, IsTrue}
use Rattle.std.specs.List.{list_any}
use Rattle.std.specs.Str.{bytes_eq}
use Rattle.std.proofs.lemmas.Slice.Eq.{bytes_eq-Decides}
use Rattle.std.proofs.lemmas.Bool.{cond-true, cond-false, cases_eq}
use Rattle.vx_base.specs.Blocks.{Contents}
use Rattle.vx_base.specs.Named.{Word}
use Rattle.vx_mask.specs.Mask.{has}
use Rattle.vx_sector.specs.Fields.{zeros}
use Rattle.vx_header.specs.Said.{toggle_of}
use Rattle.vx_header.specs.Spelled.{IsToggle}
use Rattle.vx_header.specs.Places.{IsFirstBad, is_toggle_place, toggle_end}
use Rattle.vx_copies.specs.Lists.{AllOf}
use Rattle.vx_copies.specs.Image.{offer_in, offer_told}
use Rattle.vx_import.specs.Looks.{Looked, HasReading, IsReading}
use Rattle.vx_import.specs.Choice.{At, offers_read}
use Rattle.vx_import.specs.Naming.{is_readable_slot, AllThere, IsGone, is_meant, damage_in, damage_read, IsWhole, IsHurt}
use Rattle.vx_import.specs.declared.device.Reading.{Reading}
use Rattle.vx_import.specs.declared.device.Reading.TheVariants as reading
use Rattle.vx_import.specs.declared.naming.Damage.{Damage}
use Rattle.vx_stages.specs.Finding.{Candidate, offers_of, is_damaged, is_damaged_one, first_that, missing_from}
use Rattle.vx_moments.specs.World.{Device}
use Rattle.vx_stage_import.specs.Finds.{contents_in, candidate_of, candidates_of}

-- the first byte of the toggle that does not fit, from the device's start
pub record IsDamagedAt (device : Device) (byte : ℕ) : Type 0 where
  pub in_toggle : 512 ≤ byte
  pub bad : IsFirstBad IsToggle is_toggle_place toggle_end (device.contents 1) (byte - 512)

-- A device that was found is told, and is said to be unread where a read of it has failed.
pub record IsLinked (unread : Word → Bool) (f : Looked) : Type 0 where
  pub unread_is : unread f.device ≡ not f.readable
  pub contents : Contents
  pub told : f.seen.told ≡ Some contents

module _ (group : Word) (unread : Word → Bool) where
  offer_link : (f : Looked) → IsLinked unread f → cond (unread f.device) None (offer_in group (contents_in f.seen.told)) ≡ cond f.readable (offer_told group f.seen.told) None
  offer_link f is =
      ap (λ b. cond b None (offer_in group (contents_in f.seen.told))) is.unread_is
      ∙ ap (λ t. cond (not f.readable) None (offer_in group (contents_in t))) is.told
      ∙ by f.readable
      ∙ ap (λ t. cond f.readable (offer_told group t) None) (sym is.told)
    where
      by : (b : Bool) → cond (not b) None (offer_in group is.contents) ≡ cond b (offer_in group is.contents) None
      by true = refl
      by false = refl

  -- the same offers
  pub offers_link : (fs : List Looked) → AllOf (IsLinked unread) fs → offers_of group unread (candidates_of fs) ≡ offers_read group fs
  offers_link [] all = refl
  offers_link (f ∷ fs) all =
      ap (λ o. o ∷ offers_of group unread (candidates_of fs)) (offer_link f all.0)
      ∙ ap (λ os. cond f.readable (offer_told group f.seen.told) None ∷ os) (offers_link fs all.1)

zero_sector : (sector : List ℕ) → sector ≡ zeros 512 → bytes_eq sector (replicate 512 0) ≡ true
unfolding zeros
zero_sector sector e = (bytes_eq-Decides sector (replicate 512 0)).1 e

other_sector : (sector : List ℕ) → sector ≢ zeros 512 → bytes_eq sector (replicate 512 0) ≡ false
unfolding zeros
other_sector sector away = by (bytes_eq sector (replicate 512 0)) refl
  where
    by : (b : Bool) → bytes_eq sector (replicate 512 0) ≡ b → bytes_eq sector (replicate 512 0) ≡ false
    by true e = absurd (away ((bytes_eq-Decides sector (replicate 512 0)).0 e))
    by false e = e

and_false : (b : Bool) → (b && false) ≡ false
and_false true = refl
and_false false = refl

-- a sector is damaged where it is read so
damage_link : (r : Reading) (sector : List ℕ) → IsReading r sector → (not (bytes_eq sector (replicate 512 0)) && is_none (toggle_of sector)) ≡ is_some (damage_in r)
damage_link reading.Blank sector is = ap (λ b. not b && is_none (toggle_of sector)) (zero_sector sector is.form)
damage_link (reading.Says t) sector is = ap (λ o. not (bytes_eq sector (replicate 512 0)) && is_none o) is.said ∙ and_false (not (bytes_eq sector (replicate 512 0)))
damage_link (reading.Damaged byte) sector is = ap (λ b. not b && is_none (toggle_of sector)) (other_sector sector is.form.2) ∙ ap is_none is.said

reading_told : (f : Looked) (c : Contents) → f.seen.told ≡ Some c → HasReading f → IsTrue f.readable → IsReading f.reading (c 1)
reading_told f c told reads readable = subst (λ (o : Option Contents). IfSome o (λ d. IsReading f.reading (d 1))) told (reads readable)

module _ (unread : Word → Bool) where
  damaged_link : (f : Looked) → IsLinked unread f → HasReading f → (not (unread f.device) && is_damaged (candidate_of f).device) ≡ is_some (damage_read f)
  damaged_link f is reads =
      ap (λ b. not b && is_damaged (candidate_of f).device) is.unread_is
      ∙ by f.readable (λ e. ap (λ t. not (bytes_eq (contents_in t 1) (replicate 512 0)) && is_none (toggle_of (contents_in t 1))) is.told ∙ damage_link f.reading (is.contents 1) (reading_told f is.contents is.told reads e))
    where
      by : (b : Bool) → (IsTrue b → is_damaged (candidate_of f).device ≡ is_some (damage_in f.reading)) → (not (not b) && is_damaged (candidate_of f).device) ≡ is_some (cond b (damage_in f.reading) None)
      by true on = on refl
      by false on = refl

  abbrev pub test_of : Option ℕ → Candidate → Bool
  test_of meant c = is_meant meant c.label.slot

  one_link : (meant : Option ℕ) (f : Looked) → IsLinked unread f → HasReading f → is_damaged_one unread (test_of meant) (candidate_of f) ≡ (is_some (damage_read f) && is_meant meant f.label.slot)
  one_link meant f is reads = ap (λ b. b && is_meant meant f.label.slot) (damaged_link f is reads)

  whole_false : (meant : Option ℕ) (f : Looked) → IsWhole meant f → (is_some (damage_read f) && is_meant meant f.label.slot) ≡ false
  whole_false meant f whole = by (is_meant meant f.label.slot) whole
    where
      by : (b : Bool) → (b ≡ true → damage_read f ≡ None) → (is_some (damage_read f) && b) ≡ false
      by true on = ap (λ o. is_some o && true) (on refl)
      by false on = and_false (is_some (damage_read f))

  skip : (test : Candidate → Bool) (c : Candidate) (cs : List Candidate) → test c ≡ false → first_that test (c ∷ cs) ≡ first_that test cs
  skip test c cs e = cond-false _ _ _ e

  -- no device that is meant is damaged
  pub whole_link : (meant : Option ℕ) (fs : List Looked) → AllOf (IsLinked unread) fs → AllOf HasReading fs → AllOf (IsWhole meant) fs → first_that (is_damaged_one unread (test_of meant)) (candidates_of fs) ≡ None
  whole_link meant [] all reads whole = refl
  whole_link meant (f ∷ fs) all reads whole =
      skip (is_damaged_one unread (test_of meant)) (candidate_of f) (candidates_of fs) (one_link meant f all.0 reads.0 ∙ whole_false meant f whole.0) ∙ whole_link meant fs all.1 reads.1 whole.1

  -- the first damaged device that is meant
  pub record IsHurtFirst (meant : Option ℕ) (d : Damage) (cs : List Candidate) : Type 0 where
    pub first : Candidate
    pub is : first_that (is_damaged_one unread (test_of meant)) cs ≡ Some first
    pub disk : first.label.disk ≡ d.disk
    pub at : IsDamagedAt first.device d.byte

  damaged_at : (f : Looked) (byte : ℕ) → IsLinked unread f → HasReading f → damage_read f ≡ Some byte → IsDamagedAt (candidate_of f).device byte
  damaged_at f byte is reads e = by f.readable f.reading (λ h. reading_told f is.contents is.told reads h) e
    where
      by : (b : Bool) (r : Reading) → (IsTrue b → IsReading r (is.contents 1)) → cond b (damage_in r) None ≡ Some byte → IsDamagedAt (candidate_of f).device byte
      by false r on e = cc
      by true reading.Blank on e = cc
      by true (reading.Says t) on e = cc
      by true (reading.Damaged n) on e =
          let same : n ≡ byte = cc in
          let form = (on refl).form in
          subst (λ k. IsDamagedAt (candidate_of f).device k) same
          (record { in_toggle = form.0; bad = subst (λ t. IsFirstBad IsToggle is_toggle_place toggle_end (contents_in t 1) (n - 512)) (sym is.told) form.1 })

  hurt_first : (meant : Option ℕ) (d : Damage) (f : Looked) (cs : List Candidate) → IsLinked unread f → HasReading f → IsHurt meant d f → IsHurtFirst meant d (candidate_of f ∷ cs)
  hurt_first meant d f cs is reads hurt = record {
    first = candidate_of f;
    is = cond-true _ _ _ (one_link meant f is reads ∙ ap (λ o. is_some o && is_meant meant f.label.slot) hurt.byte_is ∙ hurt.named);
    disk = hurt.disk_is;
    at = damaged_at f d.byte is reads hurt.byte_is;
  }

  pub hurt_link : (meant : Option ℕ) (d : Damage) (fs : List Looked) → AllOf (IsLinked unread) fs → AllOf HasReading fs → (i : ℕ) → At i (IsHurt meant d) fs → AllOf (IsWhole meant) (take i fs) → IsHurtFirst meant d (candidates_of fs)
  hurt_link meant d [] all reads i at whole = absurd at
  hurt_link meant d (f ∷ fs) all reads zero at whole = hurt_first meant d f (candidates_of fs) all.0 reads.0 at
  hurt_link meant d (f ∷ fs) all reads (suc i) at whole =
      let rest = hurt_link meant d fs all.1 reads.1 i at whole.1 in record {
        first = rest.first;
        is = skip (is_damaged_one unread (test_of meant)) (candidate_of f) (candidates_of fs) (one_link meant f all.0 reads.0 ∙ whole_false meant f whole.0) ∙ rest.is;
        disk = rest.disk;
        at = rest.at;
      }

  not_not : (b : Bool) → not (not b) ≡ b
  not_not true = refl
  not_not false = refl

  -- a slot has a device that can be read
  slot_link : (slot : ℕ) (fs : List Looked) → AllOf (IsLinked unread) fs → list_any (λ c. not (unread c.name) && c.label.slot == slot) (candidates_of fs) ≡ is_readable_slot slot fs
  slot_link slot [] all = refl
  slot_link slot (f ∷ fs) all =
      ap (λ b. (not b && f.label.slot == slot) || list_any (λ c. not (unread c.name) && c.label.slot == slot) (candidates_of fs)) all.0.unread_is
      ∙ ap (λ b. (b && f.label.slot == slot) || list_any (λ c. not (unread c.name) && c.label.slot == slot) (candidates_of fs)) (not_not f.readable)
      ∙ ap (λ b. (f.readable && f.label.slot == slot) || b) (slot_link slot fs all.1)

  module _ (good : ℕ) (fs : List Looked) (all : AllOf (IsLinked unread) fs) where
    abbrev pub is_gone : ℕ → Bool
    is_gone slot = has good slot && not (list_any (λ c. not (unread c.name) && c.label.slot == slot) (candidates_of fs))

    there_false : (slot : ℕ) → (has good slot ≡ true → is_readable_slot slot fs ≡ true) → is_gone slot ≡ false
    there_false slot there = by (has good slot) there
      where
        by : (b : Bool) → (b ≡ true → is_readable_slot slot fs ≡ true) → (b && not (list_any (λ c. not (unread c.name) && c.label.slot == slot) (candidates_of fs))) ≡ false
        by true on = ap not (slot_link slot fs all ∙ on refl)
        by false on = refl

    pub none_missing : (n from : ℕ) → AllThere (from + n) good fs → missing_from n from good unread (candidates_of fs) ≡ None
    none_missing zero from there = refl
    none_missing (suc n) from there =
        cond-false _ _ _ (there_false from (there from (omega arith)))
        ∙ none_missing n (from + 1) (λ slot lt named. there slot (omega (arith, lt)) named)

    pub one_missing : (n from slot : ℕ) → from ≤ slot → slot < from + n → IsGone slot good fs → missing_from n from good unread (candidates_of fs) ≡ Some slot
    one_missing zero from slot le lt gone = absurd (omega (arith, le, lt))
    one_missing (suc n) from slot le lt gone = elim (cases_eq from slot) [
      | inl same ↦ cond-true _ _ _ (here same) ∙ ap (λ k. Some k) same
      | inr other ↦ (let less : from < slot = omega (arith, le, other) in cond-false _ _ _ (there_false from (gone.lowest from less)) ∙ one_missing n (from + 1) slot (omega (arith, less)) (omega (arith, lt)) gone)
    ]
      where
        here : from ≡ slot → is_gone from ≡ true
        here same = subst (λ k. is_gone k ≡ true) (sym same) (ap (λ b. b && not (list_any (λ c. not (unread c.name) && c.label.slot == slot) (candidates_of fs))) gone.named ∙ ap not (slot_link slot fs all ∙ gone.gone))
