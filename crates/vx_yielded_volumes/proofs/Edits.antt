-- What the edit of a log plex that leaves its volume makes of a configuration: the volume has its data plexes as they were, and its other logs.
use Rattle.std.proofs.Common.{◌≡◌, ◌≢◌, ℕ, Bool, true, false, not, ◌∷◌, [], refl, sym, ◌∙◌, subst}
use Rattle.std.specs.Prelude.{◌&&◌, Contains}
use Rattle.std.specs.List.{filter, flat_map}
use Rattle.std.proofs.lemmas.Bool.{and_parts, false≢true, false_from_ne_true}
use Rattle.vx_layout.specs.declared.place.Place.{Place}
use Rattle.vx_layout.specs.declared.strip.Strip.{Strip}
use Rattle.vx_layout.specs.Columns.{has_place}
use Rattle.vx_config_parts.specs.declared.plex.Plex.{Plex}
use Rattle.vx_config_parts.specs.declared.vol.Vol.{Vol}
use Rattle.vx_config_parts.specs.Objects.{is_data_plex_of, is_log, is_log_plex_of, refers}
use Rattle.vx_objects.specs.declared.config.Config.{Config}
use Rattle.vx_image.specs.Bytes.{is_held}
use Rattle.vx_image.specs.Own.{IsOfVolume}
use Rattle.vx_image.specs.UsedPlexes.{IsVolOf, held_plexes, is_on, off_plexes, on_plexes}
use Rattle.vx_image.proofs.Members.{contains, is_in}
use Rattle.vx_image.proofs.PlexMembers.{IsIn}
use Rattle.vx_lending.proofs.Distinct.{filtered}
use Rattle.vx_lending.proofs.Rules.{one_plex}
use Rattle.vx_group_edits.specs.OfVolume.{AreEditsOf, IsPlexNameOf}
use Rattle.vx_group_edits.proofs.DcoEdits.{own_name}
use Rattle.vx_group_edits.proofs.Lists.{filter_passed}
use Rattle.vx_group_edits.proofs.OfVolume.{own_edit_keeps_others}
use Rattle.vx_joined_volumes.specs.Parted.{IsTakenOut, leaving_edit}
use Rattle.vx_joined_volumes.proofs.PartEdits.{HasLost, came_from, columns_stay, held_now, is_other, lost_by, name_other, off_now, on_now, other_name}
use Rattle.vx_joined_volumes.proofs.Plexes.{data_no_log}
use Rattle.vx_yielded_volumes.specs.Yielded.{TakesLogOut}
use Rattle.vx_yielded_volumes.specs.YieldLaws.{EachLogIsTakenOut, EachLogLeavingIsOfItsVolume, EachLogLeavingKeepsOthers}

-- a data plex of the volume has another name than a log plex
pub data_other : (c : Config) (v : Vol) (p q : Plex) → IsIn c.plexes p → IsIn c.plexes q → is_log_plex_of v.name p ≡ true → is_data_plex_of v.name q ≡ true → q.name ≢ p.name
data_other c v p q here there log own same =
    false≢true (sym (data_no_log v.name q own) ∙ subst (λ (x : Plex). is_log_plex_of v.name x ≡ true) (sym (one_plex c q p there here same)) log)

module _ (c c' : Config) (v : Vol) (p : Plex) (remove : Bool) (takes : TakesLogOut c v p remove c') where
  pub p_there : IsIn c.plexes p
  p_there = is_in c.plexes p takes.there

  its_name : IsPlexNameOf c v.name p.name
  its_name = own_name c v.name p p_there (and_parts (refers p.vol v.name) (is_log p.kind) takes.log_is).0

  own_by : (removed : Bool) → AreEditsOf c v.name (leaving_edit removed p ∷ [])
  own_by true = (its_name, tt)
  own_by false = ((tt, its_name), tt)

  edits_own : AreEditsOf c v.name (leaving_edit remove p ∷ [])
  edits_own = own_by remove

  pub has_lost : HasLost c c' v p.name
  has_lost = lost_by c c' v p its_name remove takes.edited

  -- ---- the data plexes of the volume

  data_stay : (t : Plex → Bool) → filter (is_other p.name) (filter (λ q. is_data_plex_of v.name q && t q) c.plexes) ≡ filter (λ q. is_data_plex_of v.name q && t q) c.plexes
  data_stay t =
      filter_passed (is_other p.name) (filter (λ q. is_data_plex_of v.name q && t q) c.plexes) (λ q there.
      let w = filtered (λ q. is_data_plex_of v.name q && t q) c.plexes q there in
      name_other p.name q (data_other c v p q p_there w.0 takes.log_is (and_parts (is_data_plex_of v.name q) (t q) w.1).0))

  pub held_stay : (good : ℕ) → held_plexes c' good v.name ≡ held_plexes c good v.name
  held_stay good = held_now c c' v p.name has_lost good ∙ data_stay (is_held c good)

  pub on_stay : (good : ℕ) → on_plexes c' good v.name ≡ on_plexes c good v.name
  on_stay good = on_now c c' v p.name has_lost good ∙ data_stay (is_on c good)

  pub off_stay : (good : ℕ) → off_plexes c' good v.name ≡ off_plexes c good v.name
  off_stay good = off_now c c' v p.name has_lost good ∙ data_stay (λ q. not (is_on c good q))

  -- ---- all that the edit leaves

  differs : (q : Plex) → IsIn c.plexes q → q ≢ p → q.name ≢ p.name
  differs q there other same = other (one_plex c q p there p_there same)

  none_named : (x : Plex) → IsIn c'.plexes x → x.name ≡ p.name → refers x.vol v.name ≡ false
  none_named x there same = false_from_ne_true (refers x.vol v.name) (λ own. other_name p.name x (came_from c c' v p.name has_lost x there own).1 same)

  place_was : (place : Place) → IsOfVolume c' v.name place → IsOfVolume c v.name place
  place_was place of =
      let q = came_from c c' v p.name has_lost of.0 (is_in c'.plexes of.0 of.1) of.2 in (
        of.0,
        contains c.plexes of.0 q.0,
        of.2,
        subst (λ columns. (strip : Strip) × Contains (flat_map (λ strips. strips) columns) strip × (has_place strip place ≡ true)) (columns_stay c c' v p.name has_lost of.0 (other_name p.name of.0 q.1)) of.3,
      )

  taken_out : IsVolOf c v → IsTakenOut c v p c'
  taken_out of = record {
    recorded = has_lost.recorded of;
    disks = has_lost.disks;
    snaps = has_lost.snaps;
    others = λ q there other. contains c'.plexes q (has_lost.others q (is_in c.plexes q there) (differs q (is_in c.plexes q there) other));
    none_added = λ x there own. contains c.plexes x (came_from c c' v p.name has_lost x (is_in c'.plexes x there) own).0;
    gone = λ x there same. none_named x (is_in c'.plexes x there) same;
    lies = λ q there other. record { unit = refl; columns = columns_stay c c' v p.name has_lost q (differs q (is_in c.plexes q there) other) };
    places = place_was;
  }

pub each_log_taken_out : EachLogIsTakenOut
each_log_taken_out c v of p remove c' takes = taken_out c c' v p remove takes of

pub each_log_leaving_own : EachLogLeavingIsOfItsVolume
each_log_leaving_own c v p remove c' takes = edits_own c c' v p remove takes

pub each_log_leaving_keeps : EachLogLeavingKeepsOthers
each_log_leaving_keeps c v p remove c' takes = own_edit_keeps_others c c' v.name (leaving_edit remove p ∷ []) (edits_own c c' v p remove takes) takes.edited
