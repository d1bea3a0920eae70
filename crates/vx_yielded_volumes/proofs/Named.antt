-- The plexes of a volume that a plex of its log has left, by their names and maps, and as their tracks see them.
use Rattle.std.proofs.Common.{◌≡◌, ◌≢◌, ℕ, Bool, true, false, not, List, map, sym, ◌∙◌, ap}
use Rattle.std.specs.Prelude.{◌&&◌, ◌++◌, Contains}
use Rattle.std.specs.List.{filter, flat_map}
use Rattle.std.specs.Str.{bytes_eq}
use Rattle.std.proofs.lemmas.Bool.{and_parts, false_from_ne_true}
use Rattle.vx_base.specs.Named.{Word}
use Rattle.vx_base.proofs.NamedLemmas.{bytes_eq_same}
use Rattle.vx_piece.specs.Seen.{Seen}
use Rattle.vx_layout.specs.declared.strip.Strip.{Strip}
use Rattle.vx_pages.specs.declared.local_piece.LocalPiece.{Ghosts}
use Rattle.vx_config_parts.specs.declared.plex.Plex.{Plex}
use Rattle.vx_config_parts.specs.declared.vol.Vol.{Vol}
use Rattle.vx_config_parts.specs.Objects.{is_data, refers}
use Rattle.vx_objects.specs.declared.config.Config.{Config}
use Rattle.vx_image.specs.Bytes.{Sectors, image_of}
use Rattle.vx_image.specs.Image.{PlexImage, is_available_state}
use Rattle.vx_image.specs.Lies.{strips_of}
use Rattle.vx_image.specs.UsedPlexes.{held_plexes, used_logs}
use Rattle.vx_image.proofs.PlexMembers.{IsIn, any_in, in_any}
use Rattle.vx_moments.specs.Holding.{is_among}
use Rattle.vx_moments.specs.Owners.{device_at, listed, owner_of, owners_of}
use Rattle.vx_moments.specs.Tracks.{TrackOwner}
use Rattle.vx_moments.specs.World.{Group, Member}
use Rattle.vx_lending.proofs.Bits.{kept}
use Rattle.vx_lending.proofs.Distinct.{filtered}
use Rattle.vx_lending.specs.declared.public.Running.{Running}
use Rattle.vx_volume_laws.specs.Leaving.{AreNamedIn}
use Rattle.vx_volume_laws.proofs.Held.{in_image, of_image}
use Rattle.vx_group_edits.proofs.Lists.{filter_append}
use Rattle.vx_group_volumes.specs.Opened.{WereThere, opened_plexes}
use Rattle.vx_group_volumes.specs.Places.{RunsInPlace}
use Rattle.vx_group_volumes.specs.Runs.{Opening}
use Rattle.vx_group_volumes.proofs.Plexes.{owner_is}
use Rattle.vx_joined_volumes.specs.Joined.{good_joined, opening_joined}
use Rattle.vx_joined_volumes.specs.PartLaws.{IsOwnerKept, names_without}
use Rattle.vx_joined_volumes.proofs.Held.{same_test}
use Rattle.vx_joined_volumes.proofs.Now.{IsNow, image_now, names_now}
use Rattle.vx_joined_volumes.proofs.PartEdits.{HasLost, came_from, columns_stay, held_now, is_other, logs_now}
use Rattle.vx_joined_volumes.proofs.PartLists.{map_filtered}
use Rattle.vx_yielded_volumes.specs.Yielded.{TakesLogOut}
use Rattle.vx_yielded_volumes.specs.YieldLaws.{AreNamedYet, EachYieldedOwnerIsKept, EachYieldedVolumeIsNamed}
use Rattle.vx_yielded_volumes.proofs.Edits.{data_other, has_lost, p_there}

abbrev name_of_plex : Plex → Word
name_of_plex q = q.name

-- another name is among names just where it is among those that are left without one
left_among : (name n : Word) (names : List Word) → n ≢ name → is_among n (names_without name names) ≡ is_among n names
left_among name n names other = same_test (is_among n (names_without name names)) (is_among n names) into from
  where
    into : is_among n (names_without name names) ≡ true → is_among n names ≡ true
    into among =
        let r = any_in (λ k. bytes_eq k n) (names_without name names) among in
        in_any (λ k. bytes_eq k n) names r.0 (filtered (λ k. not (bytes_eq k name)) names r.0 r.1).0 r.2

    from : is_among n names ≡ true → is_among n (names_without name names) ≡ true
    from among =
        let r = any_in (λ k. bytes_eq k n) names among in
        let stays = false_from_ne_true (bytes_eq r.0 name) (λ same. other (sym (bytes_eq_same r.0 n r.2) ∙ bytes_eq_same r.0 name same)) in
        in_any (λ k. bytes_eq k n) (names_without name names) r.0 (kept (λ k. not (bytes_eq k name)) names r.0 r.1 (ap not stays)) r.2

module _ {P : Type 0} {ghosts : Ghosts P} (see : P → Seen) (running : Running P ghosts) (c : Config) (good : ℕ) (numbers : List ℕ) (v : Vol) (placed : RunsInPlace see c good numbers v running)
    (p : Plex) (remove : Bool) (c' : Config) (takes : TakesLogOut c v p remove c') where
  abbrev joined : ℕ
  joined = good_joined placed.runs.opening good

  abbrev lost : HasLost c c' v p.name
  lost = has_lost c c' v p remove takes

  pub names_yielded : opened_plexes (opening_joined placed.runs.opening c' good v) ≡ names_without p.name (opened_plexes placed.runs.opening)
  names_yielded =
      ap (λ ps. map name_of_plex ps ++ map name_of_plex (used_logs v.dco c' joined false v.name)) (held_now c c' v p.name lost joined)
      ∙ ap (λ ps. map name_of_plex (filter (is_other p.name) (held_plexes c joined v.name)) ++ map name_of_plex ps) (logs_now c c' v p.name lost v.dco joined false)
      ∙ ap (λ ns. ns ++ map name_of_plex (filter (is_other p.name) (used_logs v.dco c joined false v.name))) (map_filtered name_of_plex (λ n. not (bytes_eq n p.name)) (held_plexes c joined v.name))
      ∙ ap (λ ns. names_without p.name (map name_of_plex (held_plexes c joined v.name)) ++ ns) (map_filtered name_of_plex (λ n. not (bytes_eq n p.name)) (used_logs v.dco c joined false v.name))
      ∙ sym (filter_append (λ n. not (bytes_eq n p.name)) (map name_of_plex (held_plexes c joined v.name)) (map name_of_plex (used_logs v.dco c joined false v.name)))
      ∙ ap (λ ns. names_without p.name ns) (names_now see running c good numbers v placed)

  -- ---- its data plexes

  module _ (images : List PlexImage) (were : WereThere placed.runs.opening images) where
    -- the plex of an image has another name, and is recorded as it was
    pub plex_stays : (x : PlexImage) (q : IsNow c v x) → (q.plex.name ≢ p.name) × IsIn c'.plexes q.plex
    plex_stays x q =
        let differs = data_other c v p q.plex (p_there c c' v p remove takes) q.there takes.log_is q.own in
        (differs, lost.others q.plex q.there differs)

    were_still : WereThere (opening_joined placed.runs.opening c' good v) images
    were_still bytes x here =
        let q = image_now see running c good numbers v placed images were x here in
        (_, in_image c' joined bytes v q.plex (plex_stays x q).1 q.own, q.name, q.map)

    are_still : ((bytes : Sectors) → AreNamedIn (image_of c good bytes v).plexes images) → (good' : ℕ) (bytes : Sectors) → AreNamedIn (image_of c' good' bytes v).plexes images
    are_still are good' bytes x here =
        let x_is = of_image c' good' bytes v x here in
        let q = came_from c c' v p.name lost x_is.plex x_is.there (and_parts (refers x_is.plex.vol v.name) (is_data x_is.plex.kind) x_is.of).0 in
        let y = are bytes _ (in_image c good bytes v x_is.plex q.0 x_is.of) in
        (y.0, y.1, y.2 ∙ sym (ap (λ (z : PlexImage). z.name) x_is.is), y.3 ∙ sym (ap (λ (z : PlexImage). z.map) x_is.is))

    pub named_yet : ((bytes : Sectors) → AreNamedIn (image_of c good bytes v).plexes images) → AreNamedYet (opening_joined placed.runs.opening c' good v) c' v images
    named_yet are = record { were = were_still; are = are_still are }

pub each_yielding_named : {P : Type 0} {ghosts : Ghosts P} (see : P → Seen) (running : Running P ghosts) → EachYieldedVolumeIsNamed see running
each_yielding_named see running c good numbers v placed p remove c' takes =
    (names_yielded see running c good numbers v placed p remove c' takes, λ images were are. named_yet see running c good numbers v placed p remove c' takes images were are)

-- ---- owners

module _ {P : Type 0} {ghosts : Ghosts P} (see : P → Seen) (running : Running P ghosts) (g g' : Group) (numbers : List ℕ) (v : Vol) (placed : RunsInPlace see g.config g.good numbers v running)
    (p : Plex) (remove : Bool) (takes : TakesLogOut g.config v p remove g'.config) (images : List PlexImage) (were : WereThere placed.runs.opening images) (x : PlexImage) (here : Contains images x) where
  abbrev then : Opening
  then = opening_joined placed.runs.opening g'.config g.good v

  abbrev q : IsNow g.config v x
  q = image_now see running g.config g.good numbers v placed images were x here

  left : (q.plex.name ≢ p.name) × IsIn g'.config.plexes q.plex
  left = plex_stays see running g.config g.good numbers v placed p remove g'.config takes images were x q

  was : owners_of g v.name (opened_plexes placed.runs.opening) x.name ≡ owner_of g (opened_plexes placed.runs.opening) q.plex
  was = ap (λ (n : Word). owners_of g v.name (opened_plexes placed.runs.opening) n) (sym q.name) ∙ owner_is g v.name (opened_plexes placed.runs.opening) q.plex q.there q.own

  is : owners_of g' v.name (opened_plexes then) x.name ≡ owner_of g' (opened_plexes then) q.plex
  is = ap (λ (n : Word). owners_of g' v.name (opened_plexes then) n) (sym q.name) ∙ owner_is g' v.name (opened_plexes then) q.plex left.1 q.own

  among_same : is_among q.plex.name (opened_plexes then) ≡ is_among q.plex.name (opened_plexes placed.runs.opening)
  among_same =
      ap (λ (ns : List Word). is_among q.plex.name ns) (names_yielded see running g.config g.good numbers v placed p remove g'.config takes)
      ∙ left_among p.name q.plex.name (opened_plexes placed.runs.opening) left.0

  devices_same : g'.members ≡ g.members → (owner_of g' (opened_plexes then) q.plex).devices ≡ (owner_of g (opened_plexes placed.runs.opening) q.plex).devices
  devices_same members =
      let lost = has_lost g.config g'.config v p remove takes in
      ap (λ (columns : List (List Strip)). flat_map (λ (strip : Strip). listed (device_at g'.members strip.disk)) (flat_map (λ strips. strips) columns)) (columns_stay g.config g'.config v p.name lost q.plex left.0)
      ∙ ap (λ (ms : List Member). flat_map (λ (strip : Strip). listed (device_at ms strip.disk)) (strips_of g.config q.plex)) members

  pub owner_kept : IsOwnerKept g g' (owners_of g v.name (opened_plexes placed.runs.opening) x.name) (owners_of g' v.name (opened_plexes then) x.name)
  owner_kept = record {
    available = ap (λ (w : TrackOwner). w.available) is ∙ ap (λ b. is_available_state q.plex.state && b) among_same ∙ sym (ap (λ (w : TrackOwner). w.available) was);
    devices = λ members. ap (λ (w : TrackOwner). w.devices) is ∙ devices_same members ∙ sym (ap (λ (w : TrackOwner). w.devices) was);
  }

pub each_yielded_owner : {P : Type 0} {ghosts : Ghosts P} (see : P → Seen) (running : Running P ghosts) → EachYieldedOwnerIsKept see running
each_yielded_owner see running g g' numbers v placed p remove takes images were x here = owner_kept see running g g' numbers v placed p remove takes images were x here
