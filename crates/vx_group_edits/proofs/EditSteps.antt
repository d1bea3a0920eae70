-- What each edit that gives a volume logs, or takes them, leaves of the records.
use Rattle.std.proofs.Common.{◌≡◌, ◌≢◌, ℕ, Bool, true, false, Option, Some, None, List, [], ◌∷◌, ◌++◌, map, refl, sym, ◌∙◌, ap, subst}
use Rattle.std.specs.Prelude.{if◌then◌else◌, not}
use Rattle.std.specs.List.{filter, filter_map}
use Rattle.std.specs.Str.{bytes_eq}
use Rattle.std.proofs.lemmas.List.{append-nil}
use Rattle.std.proofs.lemmas.List.Elements.{filter_map-append}
use Rattle.vx_base.specs.Named.{Word}
use Rattle.vx_base.proofs.NamedLemmas.{bytes_eq_same, bytes_eq_self}
use Rattle.vx_config_parts.specs.declared.dco.Dco.{Dco}
use Rattle.vx_config_parts.specs.declared.object.Object.{Object}
use Rattle.vx_config_parts.specs.declared.object.Object.TheVariants.{GroupRecord, DiskRecord, SubdiskRecord, PlexRecord, VolRecord, DcoRecord, SnapRecord}
use Rattle.vx_config_parts.specs.declared.plex.Plex.{Plex}
use Rattle.vx_config_parts.specs.declared.state.PlexState.{PlexState}
use Rattle.vx_config_parts.specs.declared.vol.Vol.{Vol}
use Rattle.vx_config_parts.specs.Objects.{refers}
use Rattle.vx_objects.specs.declared.edit.Edit.{Edit}
use Rattle.vx_objects.specs.declared.edit.Edit.TheVariants.{AddDco, Make, RemoveDco, RemovePlex, SetPlex, SetRegion}
use Rattle.vx_objects.specs.Edits.{added, change, edited, edited_by, kept, set_dco, set_plex, set_region, stays_without_plex, without_dco}
use Rattle.vx_objects.specs.Parts.{as_plex, as_subdisk}
use Rattle.vx_image.proofs.PlexMembers.{IsIn, in_left}
use Rattle.vx_group_edits.proofs.Added.{all_stay}
use Rattle.vx_group_edits.proofs.Changed.{names_one, true_from_not}
use Rattle.vx_group_edits.proofs.Lists.{in_filter_map, kept_seen, not_picked, picked, same_with, seen}
use Rattle.vx_group_edits.proofs.OwnEdits.{set_with, then_pick}

pub edits_behind : (es more : List Edit) (os : List Object) → edited_by (es ++ more) os ≡ edited_by more (edited_by es os)
edits_behind [] more os = refl
edits_behind (e ∷ es) more os = edits_behind es more (edited e os)

pub make_edited : (more os : List Object) → edited (Make more) os ≡ os ++ more
unfolding change added
make_edited more os = ap (λ ps. ps ++ more) (all_stay os)

-- ---- kinds of which volumes and DCOs are none

module _ {A : Type 0} (pick : Object → Option A) (no_vol : (v : Vol) → pick (VolRecord v) ≡ None) (no_dco : (d : Dco) → pick (DcoRecord d) ≡ None) where
  in_region : (name : Word) (region : ℕ) (o : Object) → pick (set_region name region o) ≡ pick o
  in_region name region (VolRecord v) = no_vol (if bytes_eq v.name name then record v { region = region } else v) ∙ sym (no_vol v)
  in_region name region o = refl

  pub region_leaves : (name : Word) (region : ℕ) (os : List Object) → filter_map pick (edited (SetRegion name region) os) ≡ filter_map pick os
  unfolding change added
  region_leaves name region os = set_with pick (λ o. Some (set_region name region o)) (in_region name region) os [] ∙ append-nil (filter_map pick os)

  with_dco : (name dco : Word) (o : Object) → pick (set_dco name dco o) ≡ pick o
  with_dco name dco (VolRecord v) = no_vol (if bytes_eq v.name name then record v { dco = Some dco } else v) ∙ sym (no_vol v)
  with_dco name dco o = refl

  pub dco_leaves : (dco : Dco) (os : List Object) → filter_map pick (edited (AddDco dco) os) ≡ filter_map pick os
  unfolding change added
  dco_leaves dco os =
      set_with pick (λ o. Some (set_dco dco.vol dco.name o)) (with_dco dco.vol dco.name) os (DcoRecord dco ∷ [])
      ∙ ap (λ xs. filter_map pick os ++ xs) (none dco)
      ∙ append-nil (filter_map pick os)
    where
      none : (d : Dco) → filter_map pick (DcoRecord d ∷ []) ≡ []
      none d = rw (no_dco d) refl

  no_dco_in : (dco : Word) (o : Object) → then_pick pick (without_dco dco o) ≡ pick o
  no_dco_in dco (VolRecord v) = no_vol (if refers v.dco dco then record v { dco = None } else v) ∙ sym (no_vol v)
  no_dco_in dco (DcoRecord d) = by (bytes_eq d.name dco)
    where
      by : (b : Bool) → then_pick pick (if b then None else Some (DcoRecord d)) ≡ pick (DcoRecord d)
      by true = sym (no_dco d)
      by false = refl
  no_dco_in dco o = refl

  pub dco_goes : (dco : Word) (os : List Object) → filter_map pick (edited (RemoveDco dco) os) ≡ filter_map pick os
  unfolding change added
  dco_goes dco os = set_with pick (λ o. without_dco dco o) (no_dco_in dco) os [] ∙ append-nil (filter_map pick os)

pub make_behind : {A : Type 0} (pick : Object → Option A) (more os : List Object) → filter_map pick (edited (Make more) os) ≡ filter_map pick os ++ filter_map pick more
make_behind pick more os = ap (λ ps. filter_map pick ps) (make_edited more os) ∙ filter_map-append pick os more

-- ---- the volume

module _ (v w : Vol) (os : List Object) (there : IsIn os (VolRecord v)) where
  -- what becomes of it where a record becomes another
  becomes : (h : Object → Option Object) (more : List Object) → h (VolRecord v) ≡ Some (VolRecord w) → IsIn (filter_map h os ++ more) (VolRecord w)
  becomes h more is = in_left (filter_map h os) more (VolRecord w) (in_filter_map h os (VolRecord v) (VolRecord w) there is)

  pub in_regions : (region : ℕ) → record v { region = region } ≡ w → IsIn (edited (SetRegion v.name region) os) (VolRecord w)
  unfolding change added
  in_regions region is =
      becomes (λ o. Some (set_region v.name region o)) []
      (ap (λ (b : Bool). Some (VolRecord (if b then record v { region = region } else v))) (bytes_eq_self v.name) ∙ ap (λ (x : Vol). Some (VolRecord x)) is)

  pub gets_dco : (dco : Dco) → v.name ≡ dco.vol → record v { dco = Some dco.name } ≡ w → IsIn (edited (AddDco dco) os) (VolRecord w)
  unfolding change added
  gets_dco dco named is =
      becomes (λ o. Some (set_dco dco.vol dco.name o)) (DcoRecord dco ∷ [])
      (ap (λ (b : Bool). Some (VolRecord (if b then record v { dco = Some dco.name } else v))) (subst (λ n. bytes_eq v.name n ≡ true) named (bytes_eq_self v.name)) ∙ ap (λ (x : Vol). Some (VolRecord x)) is)

  pub loses_dco : (dco : Word) → v.dco ≡ Some dco → record v { dco = None } ≡ w → IsIn (edited (RemoveDco dco) os) (VolRecord w)
  unfolding change added
  loses_dco dco had is =
      becomes (λ o. without_dco dco o) []
      (ap (λ (b : Bool). Some (VolRecord (if b then record v { dco = None } else v))) (subst (λ o. refers o dco ≡ true) (sym had) (bytes_eq_self dco)) ∙ ap (λ (x : Vol). Some (VolRecord x)) is)

module _ (v : Vol) (os : List Object) (there : IsIn os (VolRecord v)) where
  pub stays_with : (more : List Object) → IsIn (edited (Make more) os) (VolRecord v)
  stays_with more = subst (λ ps. IsIn ps (VolRecord v)) (sym (make_edited more os)) (in_left os more (VolRecord v) there)

  pub stays_set : (plex : Word) (to : Option Word) (next : PlexState) (k : Option ℕ) → IsIn (edited (SetPlex plex to next k) os) (VolRecord v)
  unfolding change added
  stays_set plex to next k = becomes v v os there (λ o. Some (set_plex plex to next k o)) [] refl

  pub stays_removed : (plex : Word) → IsIn (edited (RemovePlex plex) os) (VolRecord v)
  unfolding change added
  stays_removed plex = becomes v v os there (λ o. kept (stays_without_plex plex o) o) [] refl

-- ---- a plex is set

-- what becomes of a plex
abbrev pub as_set : Word → Option Word → PlexState → Option ℕ → Plex → Plex
as_set plex to next k p = if bytes_eq p.name plex then record p { vol = to; state = next; map = k } else p

module _ (plex : Word) (to : Option Word) (next : PlexState) (k : Option ℕ) where
  sets : (os : List Object) → filter_map as_plex (filter_map (λ o. Some (set_plex plex to next k o)) os) ≡ map (as_set plex to next k) (filter_map as_plex os)
  sets [] = refl
  sets (PlexRecord p ∷ os) = ap (λ ps. as_set plex to next k p ∷ ps) (sets os)
  sets (GroupRecord x ∷ os) = sets os
  sets (DiskRecord x ∷ os) = sets os
  sets (SubdiskRecord x ∷ os) = sets os
  sets (VolRecord x ∷ os) = sets os
  sets (DcoRecord x ∷ os) = sets os
  sets (SnapRecord x ∷ os) = sets os

  pub plexes_set : (os : List Object) → filter_map as_plex (edited (SetPlex plex to next k) os) ≡ map (as_set plex to next k) (filter_map as_plex os)
  unfolding change added
  plexes_set os =
      filter_map-append as_plex (filter_map (λ o. Some (set_plex plex to next k o)) os) []
      ∙ append-nil (filter_map as_plex (filter_map (λ o. Some (set_plex plex to next k o)) os))
      ∙ sets os

  no_subdisk_set : (o : Object) → as_subdisk (set_plex plex to next k o) ≡ as_subdisk o
  no_subdisk_set (PlexRecord p) = refl
  no_subdisk_set o = refl

  pub subdisks_set : (os : List Object) → filter_map as_subdisk (edited (SetPlex plex to next k) os) ≡ filter_map as_subdisk os
  unfolding change added
  subdisks_set os = set_with as_subdisk (λ o. Some (set_plex plex to next k o)) no_subdisk_set os [] ∙ append-nil (filter_map as_subdisk os)

-- ---- a plex is removed

module _ (plex : Word) (os : List Object) where
  -- the plexes that pass a test stay, where none of the name does
  pub plexes_stay : (t : Plex → Bool) → ((p : Plex) → IsIn os (PlexRecord p) → p.name ≡ plex → t p ≡ false) → filter t (filter_map as_plex (edited (RemovePlex plex) os)) ≡ filter t (filter_map as_plex os)
  unfolding change added
  plexes_stay t fails = same_with t as_plex (λ o. kept (stays_without_plex plex o) o) os [] by refl
    where
      by : (o : Object) → IsIn os o → seen t as_plex (kept (stays_without_plex plex o) o) ≡ picked t as_plex (as_plex o)
      by (PlexRecord p) there =
          kept_seen t as_plex (not (bytes_eq p.name plex)) (PlexRecord p)
          (λ gone. not_picked t as_plex p (fails p there (bytes_eq_same p.name plex (true_from_not (bytes_eq p.name plex) gone))))
      by (SubdiskRecord s) there = kept_seen t as_plex (not (refers s.plex plex)) (SubdiskRecord s) (λ gone. refl)
      by o there = refl

  -- the subdisks of a plex of another name stay
  pub subdisks_stay : (name : Word) → plex ≢ name → filter (λ s. refers s.plex name) (filter_map as_subdisk (edited (RemovePlex plex) os)) ≡ filter (λ s. refers s.plex name) (filter_map as_subdisk os)
  unfolding change added
  subdisks_stay name other = same_with (λ s. refers s.plex name) as_subdisk (λ o. kept (stays_without_plex plex o) o) os [] by refl
    where
      by : (o : Object) → IsIn os o → seen (λ s. refers s.plex name) as_subdisk (kept (stays_without_plex plex o) o) ≡ picked (λ s. refers s.plex name) as_subdisk (as_subdisk o)
      by (PlexRecord p) there = kept_seen (λ s. refers s.plex name) as_subdisk (not (bytes_eq p.name plex)) (PlexRecord p) (λ gone. refl)
      by (SubdiskRecord s) there =
          kept_seen (λ s. refers s.plex name) as_subdisk (not (refers s.plex plex)) (SubdiskRecord s)
          (λ gone. not_picked (λ s. refers s.plex name) as_subdisk s (names_one s.plex plex name (true_from_not (refers s.plex plex) gone) other))
      by o there = refl
