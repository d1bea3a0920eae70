-- A log plex that leaves a volume that does not run: the volume is as sound by its bytes as it was, whatever copies of its log are left.
use Rattle.std.proofs.Common.{◌≡◌, ◌≢◌, ◌∙◌, ℕ, ◌<◌, Bool, true, false, List, [], ◌∷◌, map, Option, Some, None, Result, refl, sym, ap, subst, inl, inr}
use Rattle.std.specs.Prelude.{◌&&◌, Contains, not}
use Rattle.std.specs.List.{filter, list_all}
use Rattle.std.specs.Str.{bytes_eq}
use Rattle.std.proofs.lemmas.Bool.{and_parts, false_from_ne_true, false≢true}
use Rattle.vx_base.specs.Named.{Word}
use Rattle.vx_base.proofs.NamedLemmas.{bytes_eq_same, bytes_eq_self}
use Rattle.vx_block.specs.Regions.{region_count}
use Rattle.vx_layout.specs.Columns.{place_of}
use Rattle.vx_mapfmt.specs.Bits.{is_headed, marks}
use Rattle.vx_piece.specs.Seen.{Seen}
use Rattle.vx_pages.specs.declared.local_piece.LocalPiece.{Ghosts}
use Rattle.vx_config_parts.specs.declared.plex.Plex.{Plex}
use Rattle.vx_config_parts.specs.declared.plex.PlexKind.{PlexKind}
use Rattle.vx_config_parts.specs.declared.plex.PlexKind.TheVariants.{Data, Log}
use Rattle.vx_config_parts.specs.declared.snap.Snap.{Snap}
use Rattle.vx_config_parts.specs.declared.state.VolState.{VolState}
use Rattle.vx_config_parts.specs.declared.state.VolState.TheVariants as vol
use Rattle.vx_config_parts.specs.declared.vol.Vol.{Vol}
use Rattle.vx_config_parts.specs.Objects.{is_data as is_data_kind, is_data_plex_of, is_log, is_log_plex_of, refers}
use Rattle.vx_objects.specs.declared.config.Config.{Config}
use Rattle.vx_state_edits.specs.Edits.{is_new}
use Rattle.vx_image.specs.Bytes.{Sectors, bytes_at, image_of, is_active, is_held, is_log_copy, log_copies, map_or_zero, plex_contents, plex_image, plex_marks, relation_maps}
use Rattle.vx_image.specs.Image.{Image, LogCopy}
use Rattle.vx_image.specs.Soundness.{IsChoiceOfMarks, IsSoundBy, IsSoundImage, MayDiffer}
use Rattle.vx_image.specs.UsedPlexes.{IsVolOf}
use Rattle.vx_image.proofs.Members.{contains, is_in}
use Rattle.vx_image.proofs.PlexMembers.{IsIn, all_in, any_in, from_map, in_any, in_map}
use Rattle.vx_group_edits.specs.OfVolume.{IsPlexNameOf}
use Rattle.vx_group_edits.proofs.ByKind.{vol_recorded}
use Rattle.vx_group_edits.proofs.DcoEdits.{own_name}
use Rattle.vx_group_edits.proofs.Lists.{all_each, filter_narrow}
use Rattle.vx_lending.proofs.Bits.{kept}
use Rattle.vx_lending.proofs.Distinct.{filtered}
use Rattle.vx_lending.proofs.Rules.{one_plex}
use Rattle.vx_lending.specs.Public.{running_at}
use Rattle.vx_moments.specs.Group.{image_on, sectors_of}
use Rattle.vx_moments.specs.World.{Group}
use Rattle.vx_joined_volumes.proofs.PartEdits.{HasLost, came_from, columns_stay, held_as, is_other, lost_by, other_name}
use Rattle.vx_joined_volumes.proofs.PartLists.{filter_alike}
use Rattle.vx_joined_volumes.proofs.Zips.{filter_twice}
use Rattle.vx_stages.specs.Tests.{is_data}
use Rattle.vx_house.specs.declared.house.Imported.{Imported}
use Rattle.vx_house.specs.declared.stop.Stop.{Stop}
use Rattle.vx_stage_changes.specs.declared.planning.NextConfig.{NextConfig}
use Rattle.vx_stage_mirrors.specs.Ending.{seen_group}
use Rattle.vx_stage_mirrors.specs.Relogging.{RecordEnds}
use Rattle.vx_stage_mirrors.proofs.DetachFacts.{found_plex}
use Rattle.vx_stage_mirrors.proofs.Meant.{same_vol}
use Rattle.vx_stage_dissociation.specs.Going.{EachHouseLeaves}
use Rattle.vx_stages.specs.Leaving.{ByRecord}
use Rattle.vx_stage_dissociation.proofs.LeaveFacts.{edited, vol_there}
use Rattle.vx_stage_dissociation.proofs.PartImages.{alike, test_by}
use Rattle.vx_stage_dissociation.proofs.RecordedGoes.{recorded_goes}

-- ---- an image with fewer copies

-- each copy of the later image is one of the first, and else they are the same
pub record HasFewerCopies (v v' : Image) : Type 0 where
  pub same : v' ≡ record v { copies = v'.copies }
  pub fewer : (c : LogCopy) → Contains v'.copies c → Contains v.copies c

module _ (v v' : Image) (same : v' ≡ record v { copies = v'.copies }) (fewer : (c : LogCopy) → Contains v'.copies c → Contains v.copies c) where
  choice_was : (r : ℕ) (B : ℕ → Bool) → IsChoiceOfMarks v' r B → IsChoiceOfMarks v r B
  choice_was r B choice = record {
    least = λ k all. choice.least k (all_each (λ (c : LogCopy). c r k) v'.copies (λ c one. all_in (λ (x : LogCopy). x r k) v.copies c all (is_in v.copies c (fewer c (contains v'.copies c one)))));
    most = λ k chosen.
        let c = any_in (λ (x : LogCopy). x r k) v'.copies (choice.most k chosen) in
        in_any (λ (x : LogCopy). x r k) v.copies c.0 (is_in v.copies c.0 (fewer c.0 (contains v'.copies c.0 c.1))) c.2;
  }

  differ : (state : VolState) (B : ℕ → Bool) → MayDiffer state v B → MayDiffer state (record v { copies = v'.copies }) B
  differ vol.Empty B may = tt
  differ vol.Clean B may = absurd may
  differ vol.Active B may = record { dirty = may.dirty; stale = may.stale }
  differ vol.NeedSync B may = record { dirty = may.dirty; stale = may.stale }
  differ vol.Sync B may = record { dirty = may.dirty; stale = may.stale }

  sound_by : (r : ℕ) (B : ℕ → Bool) → IsSoundBy v r B → IsSoundBy (record v { copies = v'.copies }) r B
  sound_by r B s = record { unmarked = s.unmarked; agree = elim s.agree [ inl agree ↦ inl agree | inr may ↦ inr (differ v.state B may) ]; tracked = s.tracked }

  pub sound_fewer : IsSoundImage v → IsSoundImage v'
  sound_fewer sound r B lt choice =
      subst (λ (i : Image). IsSoundBy i r B) (sym same) (sound_by r B (sound r B (subst (λ (i : Image). r < region_count i.length i.region) same lt) (choice_was r B choice)))

-- ---- the images of the records

module _ (c c' : Config) (v : Vol) (p : Plex) (there : IsIn c.plexes p) (no_data : is_data_plex_of v.name p ≡ false) (lost : HasLost c c' v p.name) (good : ℕ) (bytes : Sectors) where
  contents_same : (q : Plex) → q.name ≢ p.name → plex_contents c' bytes q ≡ plex_contents c bytes q
  contents_same q other = let columns = columns_stay c c' v p.name lost q other in λ i b. bytes_at bytes (place_of q.unit (columns i) b)

  image_same : (q : Plex) → q.name ≢ p.name → plex_image c' good bytes q ≡ plex_image c good bytes q
  image_same q other =
      let held = held_as c c' v p.name lost good q other in
      let values = contents_same q other in
      λ i. record { name = q.name; map = map_or_zero q.map; state = q.state; held = held i; values = values i }

  un_not : (b : Bool) → not b ≡ false → b ≡ true
  un_not true e = refl
  un_not false e = absurd (false≢true (sym e))

  not_data : (q : Plex) → IsIn c.plexes q → is_other p.name q ≡ false → is_data_plex_of v.name q ≡ false
  not_data q at same = ap (is_data_plex_of v.name) (one_plex c q p at there (bytes_eq_same q.name p.name (un_not (bytes_eq q.name p.name) same))) ∙ no_data

  data_here : filter (is_data_plex_of v.name) c'.plexes ≡ filter (is_data_plex_of v.name) c.plexes
  data_here =
      filter_narrow (is_data_plex_of v.name) (λ q. refers q.vol v.name) (λ q is. (and_parts (refers q.vol v.name) (is_data_kind q.kind) is).0) c'.plexes
      ∙ ap (λ ps. filter (is_data_plex_of v.name) ps) lost.own
      ∙ filter_twice (λ q. is_other p.name q && refers q.vol v.name) (is_data_plex_of v.name) c.plexes
      ∙ filter_alike (λ q. (is_other p.name q && refers q.vol v.name) && is_data_plex_of v.name q) (is_data_plex_of v.name) c.plexes
      (λ q at. test_by (is_other p.name q) (refers q.vol v.name) (is_data_plex_of v.name q) (is_data_plex_of v.name q) (λ is other. (and_parts (refers q.vol v.name) (is_data_kind q.kind) is).0) (λ other. refl) (not_data q at))

  named_other : (q : Plex) → IsIn c.plexes q → is_data_plex_of v.name q ≡ true → q.name ≢ p.name
  named_other q at is same = false≢true (sym no_data ∙ sym (ap (is_data_plex_of v.name) (one_plex c q p at there same)) ∙ is)

  plexes_same : map (plex_image c' good bytes) (filter (is_data_plex_of v.name) c'.plexes) ≡ map (plex_image c good bytes) (filter (is_data_plex_of v.name) c.plexes)
  plexes_same =
      ap (λ ps. map (plex_image c' good bytes) ps) data_here
      ∙ alike (plex_image c' good bytes) (plex_image c good bytes) (filter (is_data_plex_of v.name) c.plexes)
      (λ q one. let w = filtered (is_data_plex_of v.name) c.plexes q one in image_same q (named_other q w.0 w.1))

  copy_same : (q : Plex) → q.name ≢ p.name → is_log_copy c' good bytes v q ≡ is_log_copy c good bytes v q
  copy_same q other =
      let held = held_as c c' v p.name lost good q other in
      let values = contents_same q other in
      λ i. is_log_plex_of v.name q && (is_active q.state && (held i && is_headed v.len v.region (values i)))

  marks_same : (q : Plex) → q.name ≢ p.name → plex_marks c' bytes v q ≡ plex_marks c bytes v q
  marks_same q other = let values = contents_same q other in λ i r k. marks (region_count v.len v.region) (values i) k r

  copies_fewer : (dco : Option Word) (x : LogCopy) → IsIn (log_copies dco c' good bytes v) x → IsIn (log_copies dco c good bytes v) x
  copies_fewer None x one = one
  copies_fewer (Some dco) x one =
      let q = from_map (plex_marks c' bytes v) (filter (is_log_copy c' good bytes v) c'.plexes) x one in
      let w = filtered (is_log_copy c' good bytes v) c'.plexes q.0 q.1 in
      let log = (and_parts (is_log_plex_of v.name q.0) (is_active q.0.state && (is_held c' good q.0 && is_headed v.len v.region (plex_contents c' bytes q.0))) w.1).0 in
      let was = came_from c c' v p.name lost q.0 w.0 (and_parts (refers q.0.vol v.name) (is_log q.0.kind) log).0 in
      let other = other_name p.name q.0 was.1 in
      subst (λ (y : LogCopy). IsIn (map (plex_marks c bytes v) (filter (is_log_copy c good bytes v) c.plexes)) y) (sym (q.2 ∙ marks_same q.0 other))
      (in_map (plex_marks c bytes v) (filter (is_log_copy c good bytes v) c.plexes) q.0 (kept (is_log_copy c good bytes v) c.plexes q.0 was.0 (sym (copy_same q.0 other) ∙ w.1)))

  pub image_left : HasFewerCopies (image_of c good bytes v) (image_of c' good bytes v)
  image_left = record {
    same = let snaps = ap (λ (ss : List Snap). relation_maps ss v.name) lost.snaps in let plexes = plexes_same in λ i. record (image_of c' good bytes v) { snaps = snaps i; plexes = plexes i };
    fewer = λ x one. contains (image_of c good bytes v).copies x (copies_fewer v.dco x (is_in (image_of c' good bytes v).copies x one));
  }

  pub sound_left : IsSoundImage (image_of c good bytes v) → IsSoundImage (image_of c' good bytes v)
  sound_left sound = sound_fewer (image_of c good bytes v) (image_of c' good bytes v) image_left.same image_left.fewer sound

-- ---- in the house

no_data_kind : (k : PlexKind) → is_data k ≡ false → is_data_kind k ≡ true → ⊥
no_data_kind Data none is = false≢true (sym none)
no_data_kind Log none is = false≢true is

pub log_leaves : {P : Type 0} {ghosts : Ghosts P} (see : P → Seen) (v : Vol) (p : Plex) (next : NextConfig) (old new : Imported P ghosts) → is_data p.kind ≡ false → running_at old.public v.name ≡ None → (result : Result (Unit {0}) Stop) → RecordEnds see next result old new →
    EachHouseLeaves see ByRecord v p next result old new
log_leaves see v p next old new log absent result e planned shelf h has keeps =
    let gm : Group = seen_group see old in
    let at : IsIn old.config.plexes p = (found_plex p.name old.config.plexes p planned.plan.found).0 in
    let named : IsPlexNameOf old.config v.name p.name = own_name old.config v.name p at (ap (λ o. refers o v.name) planned.own ∙ bytes_eq_self v.name) in
    let lost : HasLost old.config next.config v p.name = lost_by old.config next.config v p named planned.remove (edited see ByRecord old v p next planned) in
    let of : IsVolOf old.config v = vol_there see ByRecord old v p next planned in
    let no_data : is_data_plex_of v.name p ≡ false = false_from_ne_true (is_data_plex_of v.name p) (λ is. no_data_kind p.kind log (and_parts (refers p.vol v.name) (is_data_kind p.kind) is).1) in
    recorded_goes see shelf h keeps old has v p next planned absent
    (λ w started sound x there same.
    subst (λ (y : Vol). IsSoundImage (image_on w.devices (record gm { config = next.config }) y)) (sym (same_vol next.config v x (lost.recorded of) there same))
    (sound_left old.config next.config v p at no_data lost gm.good (sectors_of w.devices gm.members) (sound v (recorded_in old.config v of) refl)))
    result new e
  where
    recorded_in : (c : Config) (u : Vol) → IsVolOf c u → Contains c.volumes u
    recorded_in c u of = contains c.volumes u (vol_recorded c u of)

-- So does a plex that leaves a volume which was never started.
pub new_leaves : {P : Type 0} {ghosts : Ghosts P} (see : P → Seen) (v : Vol) (p : Plex) (next : NextConfig) (old new : Imported P ghosts) → is_new v.state ≡ true → running_at old.public v.name ≡ None → (result : Result (Unit {0}) Stop) → RecordEnds see next result old new →
    EachHouseLeaves see ByRecord v p next result old new
new_leaves see v p next old new is absent result e planned shelf h has keeps =
    recorded_goes see shelf h keeps old has v p next planned absent (λ w started. absurd (false≢true (sym started ∙ is))) result new e
