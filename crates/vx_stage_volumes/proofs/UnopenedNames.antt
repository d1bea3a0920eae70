-- The disk of a group on the device of a number, and what is known of a volume of which nothing refuses the start at once.
use Rattle.std.proofs.Common.{◌≡◌, ◌∙◌, inl, inr, ℕ, ◌==◌, ◌&&◌, ◌||◌, not, Bool, true, false, cond, List, [], ◌∷◌, length, map, Some, None, refl, sym, ap, subst, arith}
use Rattle.std.specs.Prelude.{is_some}
use Rattle.std.proofs.lemmas.Bool.{eqb-true, false≢true}
use Rattle.vx_base.specs.Named.{Word}
use Rattle.vx_piece.specs.Seen.{Seen}
use Rattle.vx_config_parts.specs.declared.state.VolState.{VolState}
use Rattle.vx_config_parts.specs.declared.state.VolState.TheVariants as vol
use Rattle.vx_config_parts.specs.declared.vol.Vol.{Vol}
use Rattle.vx_copies.specs.Disks.{DiskSeen, disk_seen}
use Rattle.vx_copies.specs.declared.disk.Disk.{Disk}
use Rattle.vx_answers.specs.declared.refusal.Refusal.{Refusal}
use Rattle.vx_answers.specs.declared.refusal.Refusal.TheVariants as refusal
use Rattle.vx_image.specs.Image.{IsFilled}
use Rattle.vx_state_edits.specs.Edits.{is_new}
use Rattle.vx_stages.specs.Starting.{first_of}
use Rattle.vx_stages.specs.Tests.{where_}
use Rattle.vx_lending.specs.declared.form.VolumeForm.{VolumeForm}
use Rattle.vx_group_start.specs.Fresh.{is_fresh}
use Rattle.vx_house_calls.specs.Passes.{IsOneOf}
use Rattle.vx_stage_volumes.specs.Early.{has_current, is_empty, refusal_of_form}
use Rattle.vx_stage_volumes.specs.Naming.{names_at}
use Rattle.vx_stage_volumes.proofs.AtOnce.{new_is_fresh}

-- ---- names

-- the disk that is told
pub record IsNamed (hs : List DiskSeen) (number : ℕ) (names : Word × Word) : Type 0 where
  pub disk : DiskSeen
  pub there : IsOneOf hs disk
  pub number_is : disk.seen.device ≡ number
  pub name_is : disk.name ≡ names.0
  pub device_is : disk.device ≡ names.1

pub named_at : {P : Type 0} (see : P → Seen) (ds : List (Disk P)) (number : ℕ) (names : Word × Word) → names_at see ds number ≡ Some names → IsNamed (map (disk_seen see) ds) number names
named_at see [] number names is = absurd (let no : None ≡ Some names = is in cc)
named_at see (d ∷ ds) number names is = by ((see d.piece).device == number) refl is (named_at see ds number names)
  where
    pair : Some (d.name, d.device) ≡ Some names → (d.name, d.device) ≡ names
    pair e = cc

    by : (b : Bool) → ((see d.piece).device == number) ≡ b → cond b (Some (d.name, d.device)) (names_at see ds number) ≡ Some names → (names_at see ds number ≡ Some names → IsNamed (map (disk_seen see) ds) number names) → IsNamed (map (disk_seen see) (d ∷ ds)) number names
    by true e here rest =
        let same = pair here in
        record {
          disk = disk_seen see d;
          there = inl refl;
          number_is = eqb-true (see d.piece).device number e;
          name_is = ap (λ (x : Word × Word). x.0) same;
          device_is = ap (λ (x : Word × Word). x.1) same;
        }
    by false e here rest =
        let r = rest here in
        record { disk = r.disk; there = inr r.there; number_is = r.number_is; name_is = r.name_is; device_is = r.device_is }

-- ---- what refuses nothing

some_none : {Q : Type 0} (r : Refusal) → Some r ≡ None → Q
some_none r e = cc

neither : (a b : Bool) (x y : Refusal) → first_of (where_ a x) (where_ b y) ≡ None → (a ≡ false) × (b ≡ false)
neither true b x y e = some_none x e
neither false true x y e = some_none y e
neither false false x y e = (refl, refl)

-- a volume that was never started has its lowest plex, ..
pub lowest_there : (v : Vol) (form : VolumeForm) → refusal_of_form v form ≡ None → is_fresh v.state ≡ true → has_current true form.shape ≡ true
lowest_there v form early fresh =
    let new : is_new v.state ≡ true = new_is_fresh v.state ∙ fresh in
    by (is_new v.state) (has_current true form.shape) new
    (subst (λ b. ((b || not (is_some v.dco)) && not (has_current b form.shape)) ≡ false) new
    (neither _ _ (refusal.NoLog v.name) (refusal.NoCurrent 0) early).1)
  where
    by : (n b : Bool) → n ≡ true → not b ≡ false → b ≡ true
    by n true e h = refl
    by n false e h = absurd (false≢true (sym h))

-- .. and one with a DCO has a log
pub log_there : (v : Vol) (form : VolumeForm) → refusal_of_form v form ≡ None → is_some v.dco ≡ true → is_empty form.logs.items ≡ false
log_there v form early dco = by (is_some v.dco) dco (neither _ _ (refusal.NoLog v.name) (refusal.NoCurrent 0) early).0
  where
    by : (b : Bool) → b ≡ true → (b && is_empty form.logs.items) ≡ false → is_empty form.logs.items ≡ false
    by true e h = h
    by false e h = absurd (false≢true e)

pub no_copies : {A B : Type 0} (xs : List A) (ys : List B) → is_empty ys ≡ false → length xs ≡ length ys → xs ≡ [] → ⊥
no_copies xs [] some same none = false≢true (sym some)
no_copies xs (y ∷ ys) some same none = let zero_is : length xs ≡ 0 = ap length none in omega (arith, same, zero_is)

-- one that was started before is not empty
pub filled_of : (s : VolState) → is_fresh s ≡ false → IsFilled s
filled_of vol.Empty old = absurd (false≢true (sym old))
filled_of vol.Clean old = tt
filled_of vol.Active old = tt
filled_of vol.NeedSync old = tt
filled_of vol.Sync old = tt
