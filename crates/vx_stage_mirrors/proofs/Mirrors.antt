-- What is planned for a mirror, and why nothing is.
use Rattle.std.proofs.Common.{◌≡◌, ◌∙◌, ℕ, true, Option, Some, Ok, List, [], ◌∷◌, inl, inr, sym, ap, subst}
use Rattle.vx_base.specs.Named.{Word}
use Rattle.vx_config_parts.specs.declared.object.Object.{Object}
use Rattle.vx_config_parts.specs.declared.object.Object.TheVariants.{PlexRecord}
use Rattle.vx_config_parts.specs.declared.plex.Plex.{Plex}
use Rattle.vx_config_parts.specs.declared.vol.Vol.{Vol}
use Rattle.vx_objects.specs.declared.config.Config.{Config}
use Rattle.vx_objects.specs.declared.edit.Edit.TheVariants.{Make}
use Rattle.vx_objects.specs.Config.{objects_of}
use Rattle.vx_new_volumes.specs.declared.parts.Plan.{Plan}
use Rattle.vx_new_volumes.specs.declared.request.Request.{Request}
use Rattle.vx_new_volumes.specs.Planned as plan
use Rattle.vx_new_volumes.specs.Rule.{is_request}
use Rattle.vx_new_volumes.specs.Mirrors.{lowest_plex, mirror_request}
use Rattle.vx_image.specs.UsedPlexes.{IsVolOf}
use Rattle.vx_group_edits.specs.MirrorLaws.{EachLaidMirrorIsNew, EachMirrorCanBeAskedFor}
use Rattle.vx_group_edits.specs.Mirrors.{IsFreeMapOf, IsMirrorAt}
use Rattle.vx_house.specs.declared.stop.Stop.{Stop}
use Rattle.vx_house.specs.declared.stop.Stop.TheVariants as stops
use Rattle.vx_stage_changes.specs.Planning.{IsUnplanned}
use Rattle.vx_stages.specs.Mirroring.{HasNoRecords, IsMirrorLaid, IsMirrorUnlaid, IsMirrorUnplanned, RefusedFor}
use Rattle.vx_stage_mirrors.specs.Planned.{EndsAs, IsFirst}

-- what is asked for by the records of a configuration
pub record IsAsked (c : Config) (v : Vol) (disks : List Word) (group : List Object) (lowest : Plex) (request : Request) : Type 0 where
  pub all : group ≡ objects_of c
  pub lowest_is : lowest_plex v.name group ≡ Some lowest
  pub request_is : request ≡ mirror_request group v lowest disks

-- .. as it is where these records are lent twice
pub asked_by : (c : Config) (v : Vol) (disks : List Word) (group one other : List Object) (found : Option Plex) (lowest : Plex) (request : Request) → group ≡ objects_of c → one ≡ group → other ≡ group → found ≡ lowest_plex v.name one → found ≡ Some lowest →
    request ≡ mirror_request other v lowest disks → IsAsked c v disks group lowest request
asked_by c v disks group one other found lowest request all first second is some asks = record {
  all = all;
  lowest_is = ap (lowest_plex v.name) (sym first) ∙ sym is ∙ some;
  request_is = asks ∙ ap (λ os. mirror_request os v lowest disks) second;
}

module _ (c : Config) (good : ℕ) (v : Vol) (disks : List Word) where
  module _ (group : List Object) (lowest : Plex) (request : Request) (asked : IsAsked c v disks group lowest request) where
    lowest_there : lowest_plex v.name (objects_of c) ≡ Some lowest
    lowest_there = ap (lowest_plex v.name) (sym asked.all) ∙ asked.lowest_is

    asked_there : request ≡ mirror_request (objects_of c) v lowest disks
    asked_there = asked.request_is ∙ ap (λ os. mirror_request os v lowest disks) asked.all

    pub can_ask : EachMirrorCanBeAskedFor → IsVolOf c v → is_request request ≡ true
    can_ask law of = ap is_request asked_there ∙ law c v lowest disks of lowest_there

    pub no_records : (p : Plan) → plan.IsPlanned c good request (Ok p) → (stop : Stop) → EndsAs (RefusedFor (HasNoRecords group v lowest p)) stop → EndsAs (RefusedFor (IsMirrorUnlaid c good v disks)) stop
    no_records p planned stops.OutOfMemory why = tt
    no_records p planned (stops.Ended end) (r, why, is) = (
      r,
      record {
        lowest = lowest;
        lowest_is = lowest_there;
        why = inr (p, subst (λ q. plan.IsPlanned c good q (Ok p)) asked_there planned, subst (λ os. HasNoRecords os v lowest p r) asked.all why);
      },
      is,
    )

  module _ (m : ℕ) (added : List Object) (laid : IsMirrorLaid c good v disks m added) where
    pub edit_refused : (stop : Stop) → IsUnplanned (Make added ∷ []) c stop → EndsAs (IsMirrorUnplanned c good v disks) stop
    edit_refused stops.OutOfMemory why = tt
    edit_refused (stops.Ended end) (inl broken) = inr (m, added, laid, inl broken)
    edit_refused (stops.Ended end) (inr long) = inr (m, added, laid, inr long)

    -- the first of the records is the plex of the mirror
    pub first_is : EachLaidMirrorIsNew → (p : Plex) → IsFirst p added → IsMirrorAt v m added p × IsFreeMapOf c v.name m
    first_is law p (rest, same) =
        let r = law c good v disks m added laid in
        let both : PlexRecord r.0 ∷ r.1.first.0 ≡ PlexRecord p ∷ rest = sym r.1.first.1 ∙ same in
        let one : r.0 ≡ p = cc in
        (subst (IsMirrorAt v m added) one r.1, r.2)
