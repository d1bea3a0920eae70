-- What a volume of one data plex is once it has lost its logs and its DCO.
use Rattle.std.proofs.Common.{◌≡◌, ◌≢◌, Bool, true, false, not, Some, None, List, [], ◌∷◌, length, map, refl, sym, ◌∙◌, ap, subst, inl, inr, arith}
use Rattle.std.specs.Prelude.{◌&&◌, ◌||◌, ◌==◌}
use Rattle.std.specs.List.{filter, filter_map, list_any}
use Rattle.std.specs.Str.{bytes_eq}
use Rattle.std.proofs.lemmas.Bool.{and_parts, eqb-true, false≢true, false_from_ne_true, or_left, or_right}
use Rattle.vx_base.specs.Named.{Word}
use Rattle.vx_config_parts.specs.declared.object.Object.{Object}
use Rattle.vx_config_parts.specs.declared.object.Object.TheVariants.{PlexRecord, VolRecord}
use Rattle.vx_config_parts.specs.declared.plex.Plex.{Plex}
use Rattle.vx_config_parts.specs.declared.snap.Snap.{Snap}
use Rattle.vx_config_parts.specs.declared.vol.Vol.{Vol}
use Rattle.vx_config_parts.specs.Objects.{is_data_plex_of, is_log_plex_of, refers}
use Rattle.vx_objects.specs.declared.config.Config.{Config}
use Rattle.vx_objects.specs.declared.edit.Edit.{Edit}
use Rattle.vx_objects.specs.declared.edit.Edit.TheVariants.{RemoveDco, RemovePlex, SetPlex}
use Rattle.vx_objects.specs.Applied.{IsEdited}
use Rattle.vx_objects.specs.Config.{objects_of}
use Rattle.vx_objects.specs.Edits.{edited, edited_by}
use Rattle.vx_objects.specs.Parts.{as_plex, as_subdisk, in_kinds}
use Rattle.vx_objects.proofs.OneGroup.{unless_none}
use Rattle.vx_image.specs.UsedPlexes.{IsVolOf}
use Rattle.vx_image.proofs.PlexMembers.{IsIn, in_any, in_one, one_in}
use Rattle.vx_lending.proofs.Bits.{kept}
use Rattle.vx_lending.proofs.Distinct.{filtered}
use Rattle.vx_lending.proofs.Rules.{one_plex}
use Rattle.vx_answers.specs.declared.refusal.Refusal.TheVariants as refusal
use Rattle.vx_stages.specs.Logging.{MayLoseLog, found_unprepare_refusal, has_relation, is_log_spare, is_waiting, log_plexes_of, spare_log_refusal}
use Rattle.vx_volume_laws.specs.Keeping.{data_plexes}
use Rattle.vx_group_edits.specs.Dcos.{ChangesDco}
use Rattle.vx_group_edits.specs.DcoLaws.{EachUnpreparingChangesDco}
use Rattle.vx_group_edits.specs.OfVolume.{AreEditsOf}
use Rattle.vx_group_edits.proofs.ByKind.{plexes_own, records_vol, subdisks_own}
use Rattle.vx_group_edits.proofs.Commands.{found_there}
use Rattle.vx_group_edits.proofs.DcoEdits.{log_no_data, own_plex, unpreparing_own}
use Rattle.vx_group_edits.proofs.EditSteps.{dco_goes, edits_behind, loses_dco, plexes_stay, stays_removed, subdisks_stay}
use Rattle.vx_group_edits.proofs.Lists.{in_filter_map, only_in}
use Rattle.vx_group_edits.proofs.LonePlexes.{HasAlone, changes, lone, no_relations}
use Rattle.vx_group_edits.proofs.OwnEdits.{disks_same, snaps_same}

abbrev removals : List Plex → List Edit
removals ps = map (λ (p : Plex). RemovePlex p.name) ps

-- plexes of other names go, and the plex stays
removed : (c : Config) (vol : Word) (p : Plex) (w : Vol) (ls : List Plex) → ((l : Plex) → IsIn ls l → l.name ≢ p.name) → (all : List Object) → HasAlone c vol p w all → HasAlone c vol p w (edited_by (removals ls) all)
removed c vol p w [] other all has = has
removed c vol p w (l ∷ ls) other all has = removed c vol p w ls (λ m there. other m (inr there)) (edited (RemovePlex l.name) all) step
  where
    no_data : (q : Plex) → IsIn all (PlexRecord q) → q.name ≡ l.name → is_data_plex_of vol q ≡ false
    no_data q there same =
        false_from_ne_true (is_data_plex_of vol q)
        (λ d.
        let mine = subst (λ ps. IsIn ps q) has.plexes (kept (is_data_plex_of vol) (filter_map as_plex all) q (in_filter_map as_plex all (PlexRecord q) q there refl) d) in
        other l (inl refl) (sym same ∙ ap (λ (x : Plex). x.name) (only_in q p mine)))

    step : HasAlone c vol p w (edited (RemovePlex l.name) all)
    step = record {
      volume = stays_removed w all has.volume l.name;
      plexes = plexes_stay l.name all (is_data_plex_of vol) no_data ∙ has.plexes;
      subdisks = subdisks_stay l.name all p.name (other l (inl refl)) ∙ has.subdisks;
    }

module _ (c : Config) (name : Word) (v : Vol) (plex : Plex) (edits : List Edit) (may : MayLoseLog c name v plex edits) (c' : Config) (is : IsEdited edits c c') where
  abbrev all : List Object
  all = objects_of c

  of : IsVolOf c v
  of = in_one all (VolRecord v) (records_vol c v (found_there name c.volumes v may.found).0)

  own : IsIn c.plexes plex × (is_data_plex_of v.name plex ≡ true)
  own = own_plex c v.name plex may.plex_is

  own_edits : AreEditsOf c v.name edits
  own_edits = unpreparing_own c name v plex edits may

  -- ---- the tests

  spare : is_log_spare c v.name ≡ true
  spare =
      let found = subst (λ o. found_unprepare_refusal c name o ≡ None) may.found may.fits in
      unless_none (is_log_spare c v.name) (refusal.InUse may.dco) (subst (λ o. spare_log_refusal c v o ≡ None) may.dco_is found)

  abbrev waiting : Bool
  waiting = list_any (λ (p : Plex). is_log_plex_of v.name p && is_waiting p.state) c.plexes

  tested : ((length (data_plexes c v.name) == 1) ≡ true) × ((not (has_relation c v.name) && not waiting) ≡ true)
  tested = and_parts (length (data_plexes c v.name) == 1) (not (has_relation c v.name) && not waiting) spare

  was : data_plexes c v.name ≡ plex ∷ []
  was =
      let one = eqb-true (length (data_plexes c v.name)) 1 tested.0 in
      lone (data_plexes c v.name) plex (omega (arith, one)) (kept (is_data_plex_of v.name) c.plexes plex own.0 own.1)

  unrelated : (s : Snap) → IsIn c.snaps s → (bytes_eq s.vol v.name ≡ false) × (bytes_eq s.of v.name ≡ false)
  unrelated s there = (
    false_from_ne_true (bytes_eq s.vol v.name) (λ h. none (or_left (bytes_eq s.vol v.name) (bytes_eq s.of v.name) h)),
    false_from_ne_true (bytes_eq s.of v.name) (λ h. none (or_right (bytes_eq s.vol v.name) (bytes_eq s.of v.name) h)),
  )
    where
      none : (bytes_eq s.vol v.name || bytes_eq s.of v.name) ≡ true → ⊥
      none h =
          let related = in_any (λ (s : Snap). bytes_eq s.vol v.name || bytes_eq s.of v.name) c.snaps s there h in
          false≢true (sym (ap not related) ∙ (and_parts (not (has_relation c v.name)) (not waiting) tested.1).0)

  -- ---- the records, step by step

  abbrev now : Vol
  now = record v { dco = None }

  first : HasAlone c v.name plex v all
  first = record {
    volume = one_in all (VolRecord v) of;
    plexes = ap (λ ps. filter (is_data_plex_of v.name) ps) (plexes_own c) ∙ was;
    subdisks = ap (λ ss. filter (λ s. refers s.plex plex.name) ss) (subdisks_own c);
  }

  others : (l : Plex) → IsIn (log_plexes_of c v.name) l → l.name ≢ plex.name
  others l there same =
      let r = filtered (is_log_plex_of v.name) c.plexes l there in
      let one = one_plex c l plex r.0 own.0 same in
      false≢true (sym (log_no_data v.name l r.1) ∙ subst (λ (x : Plex). is_data_plex_of v.name x ≡ true) (sym one) own.1)

  abbrev without : List Object
  without = edited_by (removals (log_plexes_of c v.name)) all

  second : HasAlone c v.name plex v without
  second = removed c v.name plex v (log_plexes_of c v.name) others all first

  abbrev before : List Object
  before = edited (RemoveDco may.dco) without

  third : HasAlone c v.name plex now before
  third = record {
    volume = loses_dco v now without second.volume may.dco may.dco_is refl;
    plexes = ap (λ ps. filter (is_data_plex_of v.name) ps) (dco_goes as_plex (λ v. refl) (λ d. refl) may.dco without) ∙ second.plexes;
    subdisks = ap (λ ss. filter (λ s. refers s.plex plex.name) ss) (dco_goes as_subdisk (λ v. refl) (λ d. refl) may.dco without) ∙ second.subdisks;
  }

  edited_so : objects_of c' ≡ in_kinds (edited (SetPlex plex.name (Some v.name) plex.state None) before)
  edited_so =
      is
      ∙ ap (λ (es : List Edit). in_kinds (edited_by es all)) may.edits_are
      ∙ ap (λ os. in_kinds os) (edits_behind (removals (log_plexes_of c v.name)) (RemoveDco may.dco ∷ SetPlex plex.name (Some v.name) plex.state None ∷ []) all)

  changed : ChangesDco c v c' now plex (record plex { map = None })
  changed =
      changes c c' v plex None now before own.1 third edited_so refl refl was
      (disks_same c c' v.name edits own_edits is) (snaps_same c c' v.name edits own_edits is) (no_relations v.name c.snaps unrelated)

pub unpreparing_changes : EachUnpreparingChangesDco
unpreparing_changes c name v plex edits may c' is = (now c name v plex edits may c' is, record plex { map = None }, changed c name v plex edits may c' is, refl)
