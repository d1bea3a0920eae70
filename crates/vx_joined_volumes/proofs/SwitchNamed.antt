-- The plexes of a volume of which one went on or off, by their names and maps, and as their tracks see them.
use Rattle.std.proofs.Common.{◌≡◌, ℕ, Bool, true, false, List, map, refl, sym, ◌∙◌, ap, subst}
use Rattle.std.specs.Prelude.{◌&&◌, ◌++◌}
use Rattle.vx_base.specs.Named.{Word}
use Rattle.vx_piece.specs.Seen.{Seen}
use Rattle.vx_pages.specs.declared.local_piece.LocalPiece.{Ghosts}
use Rattle.vx_config_parts.specs.declared.plex.Plex.{Plex}
use Rattle.vx_config_parts.specs.declared.state.PlexState.{PlexState}
use Rattle.vx_config_parts.specs.declared.vol.Vol.{Vol}
use Rattle.vx_config_parts.specs.Objects.{is_data_plex_of}
use Rattle.vx_objects.specs.declared.config.Config.{Config}
use Rattle.vx_image.specs.Bytes.{Sectors, image_of, map_or_zero}
use Rattle.vx_image.specs.Image.{PlexImage, is_available_state}
use Rattle.vx_image.specs.UsedPlexes.{held_plexes, used_logs}
use Rattle.vx_image.proofs.PlexMembers.{IsIn}
use Rattle.vx_moments.specs.Holding.{is_among}
use Rattle.vx_moments.specs.Owners.{owners_of}
use Rattle.vx_moments.specs.Tracks.{TrackOwner}
use Rattle.vx_moments.specs.World.{Group}
use Rattle.vx_lending.proofs.Maps.{one_of_map}
use Rattle.vx_lending.proofs.Places.{held_taken, log_taken}
use Rattle.vx_lending.proofs.Rules.{one_plex}
use Rattle.vx_lending.specs.declared.public.Running.{Running}
use Rattle.vx_volume_laws.specs.Leaving.{AreNamedIn}
use Rattle.vx_volume_laws.proofs.Held.{in_image, of_image}
use Rattle.vx_change_laws.specs.Switching.{AreSwitched, IsNamed}
use Rattle.vx_group_volumes.specs.Opened.{WereThere, opened_plexes}
use Rattle.vx_group_volumes.specs.Places.{RunsInPlace}
use Rattle.vx_group_volumes.specs.Runs.{Opening}
use Rattle.vx_group_volumes.proofs.Plexes.{among_held, owner_is}
use Rattle.vx_joined_volumes.specs.Joined.{good_joined, opening_joined}
use Rattle.vx_joined_volumes.specs.Switched.{SetsState, WasTaken}
use Rattle.vx_joined_volumes.specs.SwitchLaws.{AreNamedStill, EachSwitchedOwnerIsSwitched, EachSwitchedVolumeIsNamed}
use Rattle.vx_joined_volumes.proofs.Now.{IsNow, image_now, names_now}
use Rattle.vx_joined_volumes.proofs.SwitchEdits.{came_from, data_same, held_as, held_now, logs_now, map_same, name_same, p_there, set, set_leaves, set_own, stays_in}
use Rattle.vx_joined_volumes.proofs.SwitchForms.{taken_held}
use Rattle.vx_joined_volumes.proofs.Zips.{map_changed}

abbrev name_of_plex : Plex → Word
name_of_plex q = q.name

-- ---- a plex of now

module _ {P : Type 0} {ghosts : Ghosts P} (see : P → Seen) (running : Running P ghosts) (c : Config) (good : ℕ) (numbers : List ℕ) (v : Vol) (placed : RunsInPlace see c good numbers v running)
    (plexes : List PlexImage) (were : WereThere placed.runs.opening plexes) where
  -- it is a plex where it has its map, and where it has its name
  by_map : (p : Plex) → IsIn c.plexes p → is_data_plex_of v.name p ≡ true → (x : PlexImage) (q : IsNow c v x) → x.map ≡ map_or_zero p.map → q.plex ≡ p
  by_map p there own x q same = one_of_map c v placed.runs.recorded q.plex p q.there there q.own own (q.map ∙ same)

  pub named : (p : Plex) → IsIn c.plexes p → is_data_plex_of v.name p ≡ true → IsNamed (map_or_zero p.map) p.name plexes
  named p there own x here =
      let q = image_now see running c good numbers v placed plexes were x here in (
        λ same. sym q.name ∙ ap name_of_plex (by_map p there own x q same),
        λ same. sym q.map ∙ ap (λ (y : Plex). map_or_zero y.map) (one_plex c q.plex p q.there there (q.name ∙ same)),
      )

-- ---- its names

module _ {P : Type 0} {ghosts : Ghosts P} (see : P → Seen) (running : Running P ghosts) (c : Config) (good : ℕ) (numbers : List ℕ) (v : Vol) (placed : RunsInPlace see c good numbers v running)
    (p : Plex) (next : PlexState) (c' : Config) (sets : SetsState c v p next c') where
  abbrev joined : ℕ
  joined = good_joined placed.runs.opening good

  abbrev becomes : Plex → Plex
  becomes q = set c c' v p next sets q

  data_names : map name_of_plex (held_plexes c' joined v.name) ≡ map name_of_plex (held_plexes c joined v.name)
  data_names =
      ap (λ ps. map name_of_plex ps) (held_now c c' v p next sets joined)
      ∙ map_changed becomes name_of_plex (held_plexes c joined v.name) (λ q there. name_same c c' v p next sets q (held_taken c joined v q there).0.there)

  log_names : map name_of_plex (used_logs v.dco c' joined false v.name) ≡ map name_of_plex (used_logs v.dco c joined false v.name)
  log_names =
      ap (λ ps. map name_of_plex ps) (logs_now c c' v p next sets v.dco joined false)
      ∙ map_changed becomes name_of_plex (used_logs v.dco c joined false v.name) (λ q there. name_same c c' v p next sets q (log_taken c joined v false v.dco q there).0.there)

  pub names_switched : opened_plexes (opening_joined placed.runs.opening c' good v) ≡ opened_plexes placed.runs.opening
  names_switched =
      ap (λ ns. ns ++ map name_of_plex (used_logs v.dco c' joined false v.name)) data_names
      ∙ ap (λ ns. map name_of_plex (held_plexes c joined v.name) ++ ns) log_names
      ∙ names_now see running c good numbers v placed

  module _ (plexes : List PlexImage) (were : WereThere placed.runs.opening plexes) (are : (bytes : Sectors) → AreNamedIn (image_of c good bytes v).plexes plexes) where
    were_still : WereThere (opening_joined placed.runs.opening c' good v) plexes
    were_still bytes x here =
        let q = image_now see running c good numbers v placed plexes were x here in (
          _,
          in_image c' joined bytes v (becomes q.plex) (stays_in c c' v p next sets q.plex q.there) (data_same c c' v p next sets q.plex q.there ∙ q.own),
          name_same c c' v p next sets q.plex q.there ∙ q.name,
          map_same c c' v p next sets q.plex q.there ∙ q.map,
        )

    are_still : (good' : ℕ) (bytes : Sectors) → AreNamedIn (image_of c' good' bytes v).plexes plexes
    are_still good' bytes x here =
        let x_is = of_image c' good' bytes v x here in
        let q = came_from c c' v p next sets x_is.plex x_is.there in
        let own = sym (data_same c c' v p next sets q.0 q.1) ∙ subst (λ (y : Plex). is_data_plex_of v.name y ≡ true) q.2 x_is.of in
        let y = are bytes _ (in_image c good bytes v q.0 q.1 own) in (
          y.0,
          y.1,
          y.2 ∙ sym (ap (λ (z : PlexImage). z.name) x_is.is ∙ ap name_of_plex q.2 ∙ name_same c c' v p next sets q.0 q.1),
          y.3 ∙ sym (ap (λ (z : PlexImage). z.map) x_is.is ∙ ap (λ (z : Plex). map_or_zero z.map) q.2 ∙ map_same c c' v p next sets q.0 q.1),
        )

    named_still : AreNamedStill (opening_joined placed.runs.opening c' good v) c' v p plexes
    named_still = record {
      were = were_still;
      are = are_still;
      named = named see running c good numbers v placed plexes were p (p_there c c' v p next sets) sets.data_is;
    }

pub each_switch_named : {P : Type 0} {ghosts : Ghosts P} (see : P → Seen) (running : Running P ghosts) → EachSwitchedVolumeIsNamed see running
each_switch_named see running c good numbers v placed p next c' sets =
    (names_switched see running c good numbers v placed p next c' sets, λ plexes were are. named_still see running c good numbers v placed p next c' sets plexes were are)

-- ---- its owners

module _ {P : Type 0} {ghosts : Ghosts P} (see : P → Seen) (running : Running P ghosts) (g g' : Group) (numbers : List ℕ) (v : Vol) (placed : RunsInPlace see g.config g.good numbers v running)
    (p : Plex) (next : PlexState) (sets : SetsState g.config v p next g'.config) (plexes : List PlexImage) (were : WereThere placed.runs.opening plexes) where
  abbrev then : Opening
  then = opening_joined placed.runs.opening g'.config g.good v

  abbrev changed : Plex → Plex
  changed q = set g.config g'.config v p next sets q

  -- whether the plex of an image is written to, before and after
  was_written : (x : PlexImage) (q : IsNow g.config v x) →
      (owners_of g v.name (opened_plexes placed.runs.opening) x.name).available ≡ (is_available_state q.plex.state && is_among q.plex.name (opened_plexes placed.runs.opening))
  was_written x q =
      ap (λ (n : Word). (owners_of g v.name (opened_plexes placed.runs.opening) n).available) (sym q.name)
      ∙ ap (λ (w : TrackOwner). w.available) (owner_is g v.name (opened_plexes placed.runs.opening) q.plex q.there q.own)

  is_written : (x : PlexImage) (q : IsNow g.config v x) →
      (owners_of g' v.name (opened_plexes then) x.name).available ≡ (is_available_state (changed q.plex).state && is_among q.plex.name (opened_plexes then))
  is_written x q =
      let name = name_same g.config g'.config v p next sets q.plex q.there in
      ap (λ (n : Word). (owners_of g' v.name (opened_plexes then) n).available) (sym (name ∙ q.name))
      ∙ ap (λ (w : TrackOwner). w.available)
      (owner_is g' v.name (opened_plexes then) (changed q.plex) (stays_in g.config g'.config v p next sets q.plex q.there) (data_same g.config g'.config v p next sets q.plex q.there ∙ q.own))
      ∙ ap (λ (n : Word). is_available_state (changed q.plex).state && is_among n (opened_plexes then)) name

  module _ (on : Bool) (state : is_available_state next ≡ on) (taken : on ≡ true → WasTaken running.form p) where
    -- the plex itself
    goes : (b : Bool) → is_available_state next ≡ b → (b ≡ true → WasTaken running.form p) → (is_available_state next && is_among p.name (opened_plexes then)) ≡ b
    goes true e was =
        let p_in = p_there g.config g'.config v p next sets in
        let held = taken_held see running g.config g.good numbers v placed p p_in sets.data_is (was refl) in
        let among = among_held then (changed p) (stays_in g.config g'.config v p next sets p p_in) (data_same g.config g'.config v p next sets p p_in ∙ sets.data_is)
        (held_as g.config g'.config v p next sets (good_joined placed.runs.opening g.good) p p_in ∙ held) in
        ap (λ b. b && is_among p.name (opened_plexes then)) e ∙ ap (λ (n : Word). is_among n (opened_plexes then)) (sym (name_same g.config g'.config v p next sets p p_in)) ∙ among
    goes false e was = ap (λ b. b && is_among p.name (opened_plexes then)) e

    pub are_switched : AreSwitched (map_or_zero p.map) on plexes (owners_of g v.name (opened_plexes placed.runs.opening)) (owners_of g' v.name (opened_plexes then))
    are_switched x here =
        let q = image_now see running g.config g.good numbers v placed plexes were x here in
        let p_in = p_there g.config g'.config v p next sets in (
          λ same.
              let one = by_map see running g.config g.good numbers v placed plexes were p p_in sets.data_is x q same in
              is_written x q
              ∙ ap (λ (y : Plex). is_available_state (changed y).state && is_among y.name (opened_plexes then)) one
              ∙ ap (λ (y : Plex). is_available_state y.state && is_among p.name (opened_plexes then)) (set_own g.config g'.config v p next sets)
              ∙ goes on state taken,
          λ other.
              let left = set_leaves g.config g'.config v p next sets q.plex q.there (λ same. other (sym q.map ∙ ap (λ (y : Plex). map_or_zero y.map) same)) in
              is_written x q
              ∙ ap (λ (y : Plex). is_available_state y.state && is_among q.plex.name (opened_plexes then)) left
              ∙ ap (λ (ns : List Word). is_available_state q.plex.state && is_among q.plex.name ns) (names_switched see running g.config g.good numbers v placed p next g'.config sets)
              ∙ sym (was_written x q),
        )

pub each_owner_switched : {P : Type 0} {ghosts : Ghosts P} (see : P → Seen) (running : Running P ghosts) → EachSwitchedOwnerIsSwitched see running
each_owner_switched see running g g' numbers v placed p next sets on state taken plexes were = are_switched see running g g' numbers v placed p next sets plexes were on state taken
