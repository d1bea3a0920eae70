-- Edits of one volume alone keep every other volume.
use Rattle.std.proofs.Common.{◌≡◌, ◌≢◌, Bool, true, false, Option, Some, None, List, [], ◌∷◌, refl, sym, ◌∙◌, ap, subst, Contains}
use Rattle.std.specs.Prelude.{if◌then◌else◌, not}
use Rattle.std.specs.List.{filter, filter_map}
use Rattle.std.specs.Str.{bytes_eq}
use Rattle.std.proofs.lemmas.Bool.{false≢true, false_from_ne_true}
use Rattle.std.proofs.lemmas.List.{append-nil}
use Rattle.vx_base.specs.Named.{Word}
use Rattle.vx_base.proofs.NamedLemmas.{bytes_eq_same}
use Rattle.vx_config_parts.specs.declared.object.Object.{Object}
use Rattle.vx_config_parts.specs.declared.object.Object.TheVariants.{SubdiskRecord, PlexRecord, VolRecord, DcoRecord}
use Rattle.vx_config_parts.specs.declared.plex.Plex.{Plex}
use Rattle.vx_config_parts.specs.declared.vol.Vol.{Vol}
use Rattle.vx_config_parts.specs.Objects.{refers}
use Rattle.vx_objects.specs.declared.config.Config.{Config}
use Rattle.vx_objects.specs.declared.edit.Edit.{Edit}
use Rattle.vx_objects.specs.declared.edit.Edit.TheVariants as edit
use Rattle.vx_objects.specs.Config.{objects_of}
use Rattle.vx_objects.specs.Edits.{added, edited, edited_by, policy_kind, policy_plex}
use Rattle.vx_objects.specs.Parts.{as_plex, as_subdisk, in_kinds}
use Rattle.vx_image.proofs.PlexMembers.{IsIn, all_in, in_left, in_right, one_in}
use Rattle.vx_image.proofs.Members.{contains}
use Rattle.vx_image.specs.UsedPlexes.{IsVolOf}
use Rattle.vx_lending.proofs.Bits.{kept}
use Rattle.vx_lending.proofs.Distinct.{filtered}
use Rattle.vx_group_edits.specs.Laws.{EachOwnEditKeepsOthers, EachPlexKeepsOthers}
use Rattle.vx_group_edits.specs.OfVolume.{AreEditsOf, AreOf, IsEditOf, IsPlexNameOf, NamesNoOther, is_part_of}
use Rattle.vx_group_edits.proofs.ByKind.{plexes_are, plexes_own, subdisks_are, subdisks_own, vol_is, vol_recorded}
use Rattle.vx_group_edits.proofs.Changed.{names_one, true_from_not}
use Rattle.vx_group_edits.proofs.Columns.{subdisks_of}
use Rattle.vx_group_edits.proofs.Lists.{gone_seen, in_filter_map, kept_seen, none_seen, not_picked, picked, same_with, seen}
use Rattle.vx_group_edits.proofs.OwnEdits.{disks_same, edited_is, set_by, snaps_same}
use Rattle.vx_group_edits.proofs.PlexNames.{AreFree, LeaveName, LeavesName, name_new, new_names, plex_name, subdisk_off}
use Rattle.vx_group_edits.proofs.Untouched.{Untouched, plexes_of, stays}

-- the records have the volume, its plexes and their subdisks as the configuration has them
record Keeps (c : Config) (v : Vol) (all : List Object) : Type 0 where
  there : IsIn all (VolRecord v)
  plexes : filter (λ p. refers p.vol v.name) (filter_map as_plex all) ≡ plexes_of c v.name
  subdisks : (p : Plex) → IsIn (plexes_of c v.name) p → filter (λ s. refers s.plex p.name) (filter_map as_subdisk all) ≡ subdisks_of c p.name

at_first : (c : Config) (v : Vol) → IsVolOf c v → Keeps c v (objects_of c)
at_first c v of = record {
  there = one_in (objects_of c) (VolRecord v) of;
  plexes = ap (λ ps. filter (λ p. refers p.vol v.name) ps) (plexes_own c);
  subdisks = λ p own. ap (λ ss. filter (λ s. refers s.plex p.name) ss) (subdisks_own c);
}

at_last : (c : Config) (v : Vol) (c' : Config) (vol : Word) (es : List Edit) → AreEditsOf c vol es → objects_of c' ≡ in_kinds (edited_by es (objects_of c)) → Keeps c v (edited_by es (objects_of c)) → Untouched c v c'
at_last c v c' vol es of is keeps =
    let all = edited_by es (objects_of c) in
    record {
      now = v;
      recorded = vol_is c' all is v keeps.there;
      name = refl;
      state = refl;
      length_is = refl;
      region_is = refl;
      dco = refl;
      plexes = ap (λ ps. filter (λ p. refers p.vol v.name) ps) (plexes_are c' all is) ∙ keeps.plexes;
      subdisks = λ p own. ap (λ ss. filter (λ s. refers s.plex p.name) ss) (subdisks_are c' all is) ∙ keeps.subdisks p own;
      more = [];
      disks = disks_same c c' vol es of is ∙ sym (append-nil c.disks);
      snaps = snaps_same c c' vol es of is;
    }

-- records that add nothing to it
record AddsNothing (c : Config) (v : Vol) (more : List Object) : Type 0 where
  no_plex : filter (λ p. refers p.vol v.name) (filter_map as_plex more) ≡ []
  no_subdisk : (p : Plex) → IsIn (plexes_of c v.name) p → filter (λ s. refers s.plex p.name) (filter_map as_subdisk more) ≡ []

module _ (c : Config) (v : Vol) (here : IsVolOf c v) (vol : Word) (other : v.name ≢ vol) where
  -- ---- the volume itself

  not_named : (name : Word) → name ≡ vol → bytes_eq v.name name ≡ false
  not_named name is = false_from_ne_true (bytes_eq v.name name) (λ h. other (bytes_eq_same v.name name h ∙ is))

  -- its DCO is none that the volume of the edits has
  not_its_dco : (dco : Word) → ((w : Vol) → Contains c.volumes w → w.dco ≡ Some dco → w.name ≡ vol) → (named : Option Word) → v.dco ≡ named → refers named dco ≡ false
  not_its_dco dco own None is = refl
  not_its_dco dco own (Some n) is =
      false_from_ne_true (bytes_eq n dco) (λ h. other (own v (contains c.volumes v (vol_recorded c v here)) (is ∙ ap (λ m. Some m) (bytes_eq_same n dco h))))

  same_vol : (e : Edit) → IsEditOf c vol e → set_by e (VolRecord v) ≡ Some (VolRecord v)
  same_vol (edit.SetVol name next policy) of = ap (λ (b : Bool). Some (VolRecord (if b then record v { state = next; rdpol = policy_kind policy; prefer = policy_plex policy } else v))) (not_named name of)
  same_vol (edit.SetRegion name region) of = ap (λ (b : Bool). Some (VolRecord (if b then record v { region = region } else v))) (not_named name of)
  same_vol (edit.AddDco dco) of = ap (λ (b : Bool). Some (VolRecord (if b then record v { dco = Some dco.name } else v))) (not_named dco.vol of)
  same_vol (edit.RemoveDco dco) of = ap (λ (b : Bool). Some (VolRecord (if b then record v { dco = None } else v))) (not_its_dco dco of.volumes v.dco refl)
  same_vol e of = refl

  -- ---- its plexes

  off : (to : Option Word) → NamesNoOther vol to → refers to v.name ≡ false
  off None rest = refl
  off (Some n) rest = false_from_ne_true (bytes_eq n v.name) (λ h. other (sym (bytes_eq_same n v.name h) ∙ rest))

  -- a plex that is named to be changed or removed is none of its own
  not_its_plex : (plex : Word) → IsPlexNameOf c vol plex → (p : Plex) → IsIn (plexes_of c v.name) p → plex ≢ p.name
  not_its_plex plex of p own same =
      let mine = filtered (λ p. refers p.vol v.name) c.plexes p own in
      false≢true (sym (off p.vol (of p (contains c.plexes p mine.0) (sym same))) ∙ mine.1)

  leaves : (p : Plex) → IsIn (plexes_of c v.name) p → (e : Edit) → IsEditOf c vol e → LeavesName p.name e
  leaves p own (edit.RemovePlex plex) of = not_its_plex plex of p own
  leaves p own e of = tt

  leave : (p : Plex) → IsIn (plexes_of c v.name) p → (es : List Edit) → AreEditsOf c vol es → LeaveName p.name es
  leave p own [] of = tt
  leave p own (e ∷ es) of = (leaves p own e of.0, leave p own es of.1)

  module _ (all : List Object) (keeps : Keeps c v all) where
    -- a plex of that name among the records is none of the volume's
    not_own : (plex : Word) → IsPlexNameOf c vol plex → (p : Plex) → IsIn all (PlexRecord p) → bytes_eq p.name plex ≡ true → refers p.vol v.name ≡ false
    not_own plex of p there named =
        false_from_ne_true (refers p.vol v.name)
        (λ own.
        let mine = subst (λ ps. IsIn ps p) keeps.plexes (kept (λ p. refers p.vol v.name) (filter_map as_plex all) p (in_filter_map as_plex all (PlexRecord p) p there refl) own) in
        not_its_plex plex of p mine (sym (bytes_eq_same p.name plex named)))

    same_plex : (e : Edit) → IsEditOf c vol e → (o : Object) → IsIn all o → seen (λ p. refers p.vol v.name) as_plex (set_by e o) ≡ picked (λ p. refers p.vol v.name) as_plex (as_plex o)
    same_plex (edit.SetPlex plex to next k) of (PlexRecord p) there = by (bytes_eq p.name plex) refl
      where
        by : (b : Bool) → bytes_eq p.name plex ≡ b →
            picked (λ p. refers p.vol v.name) as_plex (Some (if b then record p { vol = to; state = next; map = k } else p)) ≡ picked (λ p. refers p.vol v.name) as_plex (Some p)
        by false is = refl
        by true is =
            let now : Plex = record p { vol = to; state = next; map = k } in
            not_picked (λ p. refers p.vol v.name) as_plex now (off to of.0) ∙ sym (not_picked (λ p. refers p.vol v.name) as_plex p (not_own plex of.1 p there is))
    same_plex (edit.SetVol name next policy) of (VolRecord w) there = refl
    same_plex (edit.SetRegion name region) of (VolRecord w) there = refl
    same_plex (edit.AddDco dco) of (VolRecord w) there = refl
    same_plex (edit.RemovePlex plex) of (PlexRecord p) there =
        kept_seen (λ p. refers p.vol v.name) as_plex (not (bytes_eq p.name plex)) (PlexRecord p)
        (λ gone. not_picked (λ p. refers p.vol v.name) as_plex p (not_own plex of p there (true_from_not (bytes_eq p.name plex) gone)))
    same_plex (edit.RemovePlex plex) of (SubdiskRecord s) there = kept_seen (λ p. refers p.vol v.name) as_plex (not (refers s.plex plex)) (SubdiskRecord s) (λ gone. refl)
    same_plex (edit.RemoveDco dco) of (VolRecord w) there = refl
    same_plex (edit.RemoveDco dco) of (DcoRecord d) there = gone_seen (λ p. refers p.vol v.name) as_plex (bytes_eq d.name dco) (DcoRecord d) refl
    same_plex e of o there = refl

  -- ---- their subdisks

  same_subdisk : (p : Plex) → IsIn (plexes_of c v.name) p → (e : Edit) → IsEditOf c vol e → (o : Object) → seen (λ s. refers s.plex p.name) as_subdisk (set_by e o) ≡ picked (λ s. refers s.plex p.name) as_subdisk (as_subdisk o)
  same_subdisk p own (edit.SetPlex plex to next k) of (PlexRecord q) = refl
  same_subdisk p own (edit.SetVol name next policy) of (VolRecord w) = refl
  same_subdisk p own (edit.SetRegion name region) of (VolRecord w) = refl
  same_subdisk p own (edit.AddDco dco) of (VolRecord w) = refl
  same_subdisk p own (edit.RemovePlex plex) of (PlexRecord q) = kept_seen (λ s. refers s.plex p.name) as_subdisk (not (bytes_eq q.name plex)) (PlexRecord q) (λ gone. refl)
  same_subdisk p own (edit.RemovePlex plex) of (SubdiskRecord s) =
      kept_seen (λ s. refers s.plex p.name) as_subdisk (not (refers s.plex plex)) (SubdiskRecord s)
      (λ gone. not_picked (λ s. refers s.plex p.name) as_subdisk s (names_one s.plex plex p.name (true_from_not (refers s.plex plex) gone) (not_its_plex plex of p own)))
  same_subdisk p own (edit.RemoveDco dco) of (VolRecord w) = refl
  same_subdisk p own (edit.RemoveDco dco) of (DcoRecord d) = gone_seen (λ s. refers s.plex p.name) as_subdisk (bytes_eq d.name dco) (DcoRecord d) refl
  same_subdisk p own e of o = refl

  -- ---- what is added

  module _ (more : List Object) (of : AreOf vol more) (free : AreFree (plexes_of c v.name) (filter_map plex_name more)) where
    part_plex : (o : Object) → is_part_of vol more o ≡ true → picked (λ p. refers p.vol v.name) as_plex (as_plex o) ≡ []
    part_plex (PlexRecord p) is = not_picked (λ p. refers p.vol v.name) as_plex p (names_one p.vol vol v.name is (λ e. other (sym e)))
    part_plex o is = refl

    part_subdisk : (p : Plex) → IsIn (plexes_of c v.name) p → (o : Object) → is_part_of vol more o ≡ true → picked (λ s. refers s.plex p.name) as_subdisk (as_subdisk o) ≡ []
    part_subdisk p own (SubdiskRecord s) is = not_picked (λ s. refers s.plex p.name) as_subdisk s (subdisk_off vol more p (free p own) s is)
    part_subdisk p own o is = refl

    adds_nothing : AddsNothing c v more
    adds_nothing = record {
      no_plex = none_seen (λ p. refers p.vol v.name) as_plex more (λ o there. part_plex o (all_in (is_part_of vol more) more o of there));
      no_subdisk = λ p own. none_seen (λ s. refers s.plex p.name) as_subdisk more (λ o there. part_subdisk p own o (all_in (is_part_of vol more) more o of there));
    }

  adds : (e : Edit) → IsEditOf c vol e → AreFree (plexes_of c v.name) (filter_map plex_name (added e)) → AddsNothing c v (added e)
  unfolding added
  adds (edit.AddDisk disk) of free = absurd of
  adds (edit.Make objects) of free = adds_nothing objects of free
  adds (edit.SetPlex plex to next k) of free = record { no_plex = refl; no_subdisk = λ p own. refl }
  adds (edit.SetVol name next policy) of free = record { no_plex = refl; no_subdisk = λ p own. refl }
  adds (edit.RemovePlex plex) of free = record { no_plex = refl; no_subdisk = λ p own. refl }
  adds (edit.RemoveVol name) of free = absurd of
  adds (edit.AddDco dco) of free = record { no_plex = refl; no_subdisk = λ p own. refl }
  adds (edit.RemoveDco dco) of free = record { no_plex = refl; no_subdisk = λ p own. refl }
  adds (edit.AddSnap snap) of free = absurd of
  adds (edit.RemoveSnap snap) of free = absurd of
  adds (edit.SetRegion name region) of free = record { no_plex = refl; no_subdisk = λ p own. refl }

  -- ---- one edit, and all

  keeps_by : (e : Edit) → IsEditOf c vol e → AreFree (plexes_of c v.name) (filter_map plex_name (added e)) → (all : List Object) → Keeps c v all → Keeps c v (edited e all)
  keeps_by e of free all keeps =
      let nothing = adds e of free in
      let set : Object → Option Object = λ o. set_by e o in
      subst (λ os. Keeps c v os) (sym (edited_is c vol e of all)) (record {
        there = in_left (filter_map set all) (added e) (VolRecord v) (in_filter_map set all (VolRecord v) (VolRecord v) keeps.there (same_vol e of));
        plexes = same_with (λ p. refers p.vol v.name) as_plex set all (added e) (same_plex all keeps e of) nothing.no_plex ∙ keeps.plexes;
        subdisks = λ p own. same_with (λ s. refers s.plex p.name) as_subdisk set all (added e) (λ o there. same_subdisk p own e of o) (nothing.no_subdisk p own) ∙ keeps.subdisks p own;
      })

  keeps_all : (es : List Edit) → AreEditsOf c vol es → AreFree (plexes_of c v.name) (new_names es) → (all : List Object) → Keeps c v all → Keeps c v (edited_by es all)
  keeps_all [] of free all keeps = keeps
  keeps_all (e ∷ es) of free all keeps =
      keeps_all es of.1 (λ p own n there. free p own n (in_right (filter_map plex_name (added e)) (new_names es) n there)) (edited e all)
      (keeps_by e of.0 (λ p own n there. free p own n (in_left (filter_map plex_name (added e)) (new_names es) n there)) all keeps)

pub own_edit_keeps_others : EachOwnEditKeepsOthers
own_edit_keeps_others c c' vol es of is v there other good good' fewer =
    let free : AreFree (plexes_of c v.name) (new_names es) = λ p own. name_new c c' vol es of is p (filtered (λ p. refers p.vol v.name) c.plexes p own).0 (leave c v there vol other p own es of) in
    stays c v c' good good' fewer
    (at_last c v c' vol es of is (keeps_all c v there vol other es of free (objects_of c) (at_first c v there)))

pub plex_keeps_others : EachPlexKeepsOthers
plex_keeps_others c c' vol more of is = own_edit_keeps_others c c' vol (edit.Make more ∷ []) (of, tt) is
