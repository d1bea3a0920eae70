-- The devices of the log of a running volume that a log plex leaves: where none counts as failed then, none of the others has; and where one
-- of that plex has, each device of the others counts so.
use Rattle.std.proofs.Common.{◌≡◌, ◌≢◌, ◌∙◌, inl, inr, ℕ, Bool, true, false, List, [], ◌∷◌, Option, Some, None, refl, sym, ap, subst}
use Rattle.std.specs.Prelude.{◌&&◌, ◌||◌, Contains, not}
use Rattle.std.specs.List.{flat_map, list_any}
use Rattle.std.specs.Str.{bytes_eq}
use Rattle.std.proofs.lemmas.Bool.{and_from, and_parts, false_from_ne_true, false≢true}
use Rattle.vx_base.specs.Named.{Word}
use Rattle.vx_base.proofs.NamedLemmas.{bytes_eq_same, bytes_eq_self}
use Rattle.vx_mask.proofs.Tests.{or_neither}
use Rattle.vx_config_parts.specs.declared.plex.Plex.{Plex}
use Rattle.vx_config_parts.specs.declared.plex.PlexKind.{PlexKind}
use Rattle.vx_config_parts.specs.declared.plex.PlexKind.TheVariants.{Data, Log}
use Rattle.vx_config_parts.specs.declared.vol.Vol.{Vol}
use Rattle.vx_config_parts.specs.Objects.{is_log, is_log_plex_of, refers}
use Rattle.vx_layout.specs.declared.strip.Strip.{Strip}
use Rattle.vx_image.specs.Lies.{columns_of, strips_of}
use Rattle.vx_image.specs.UsedPlexes.{IsVolOf}
use Rattle.vx_image.proofs.Members.{any_from_one, contains, is_in}
use Rattle.vx_image.proofs.PlexMembers.{IsIn, in_either, in_left, in_right}
use Rattle.vx_lending.proofs.Rules.{one_plex}
use Rattle.vx_moments.specs.Holding.{is_among}
use Rattle.vx_moments.specs.Owners.{device_at, devices_on, listed}
use Rattle.vx_moments.specs.World.{Group}
use Rattle.vx_group_volumes.specs.Runs.{Opening}
use Rattle.vx_joined_volumes.specs.Parted.{IsTakenOut}
use Rattle.vx_yielded_volumes.specs.Yielded.{TakesLogOut}
use Rattle.vx_yielded_volumes.proofs.Edits.{each_log_taken_out}
use Rattle.vx_stages.specs.Left.{failed_without, is_log_device}
use Rattle.vx_stages.specs.Logs.{LogIsSpared}
use Rattle.vx_stages.specs.Tests.{is_data}
use Rattle.vx_stage_mirrors.specs.Joins.{GoesOn}
use Rattle.vx_stage_dissociation.proofs.YieldLogs.{IsLogUsed, lies_on}

-- ---- plexes that lie where they lay

-- what each of some lists has, each of the others has
moved : (f g : Strip → List Word) → ((s : Strip) (d : Word) → IsIn (f s) d → IsIn (g s) d) → (strips : List Strip) (d : Word) → IsIn (flat_map f strips) d → IsIn (flat_map g strips) d
moved f g more [] d there = there
moved f g more (s ∷ strips) d there = elim (in_either (f s) (flat_map f strips) d there) [
  | inl here ↦ in_left (g s) (flat_map g strips) d (more s d here)
  | inr later ↦ in_right (g s) (flat_map g strips) d (moved f g more strips d later)
]

listed_is : (o : Option Word) (d : Word) → IsIn (listed o) d → o ≡ Some d
listed_is None d there = absurd there
listed_is (Some x) d (inl same) = cc
listed_is (Some x) d (inr none) = absurd none

is_listed : (o : Option Word) (d : Word) → o ≡ Some d → IsIn (listed o) d
is_listed o d is = subst (λ (x : Option Word). IsIn (listed x) d) (sym is) (inl refl)

still_on : (g g' : Group) → GoesOn g g' → (p q : Plex) → columns_of g'.config q ≡ columns_of g.config p → (d : Word) → Contains (devices_on g p) d → Contains (devices_on g' q) d
still_on g g' goes p q same d there =
    let strips = flat_map (λ (strips : List Strip). strips) (columns_of g.config p) in
    contains (devices_on g' q) d
    (subst (λ (columns : List (List Strip)). IsIn (flat_map (λ (strip : Strip). listed (device_at g'.members strip.disk)) (flat_map (λ (strips : List Strip). strips) columns)) d) (sym same)
    (moved (λ (strip : Strip). listed (device_at g.members strip.disk)) (λ (strip : Strip). listed (device_at g'.members strip.disk))
    (λ s x one. is_listed (device_at g'.members s.disk) x (goes.devices s.disk x (listed_is (device_at g.members s.disk) x one))) strips d (is_in (devices_on g p) d there)))

no_data : (k : PlexKind) → is_log k ≡ true → not (is_data k) ≡ true
no_data Data e = absurd (false≢true e)
no_data Log e = refl

-- ---- a log plex leaves

module _ (g g' : Group) (goes : GoesOn g g') (name : Word) (failed : Word → Bool) (v : Vol) (named : v.name ≡ name) (recorded : IsVolOf g.config v) (p : Plex) (remove : Bool) (takes : TakesLogOut g.config v p remove g'.config) where
  taken : IsTakenOut g.config v p g'.config
  taken = each_log_taken_out g.config v recorded p remove g'.config takes

  differ : (q : Plex) → q.name ≢ p.name → q ≢ p
  differ q other same = other (ap (λ (x : Plex). x.name) same)

  -- where no device of it has failed, no device of the log has
  pub spared_then : LogIsSpared g' name (failed_without g name p failed) → list_any failed (devices_on g p) ≡ false → LogIsSpared g name failed
  spared_then spared none q there log d on = by (bytes_eq q.name p.name) refl
    where
      by : (b : Bool) → bytes_eq q.name p.name ≡ b → failed d ≡ false
      by true e =
          let same : q ≡ p = one_plex g.config q p (is_in g.config.plexes q there) (is_in g.config.plexes p takes.there) (bytes_eq_same q.name p.name e) in
          let own : Contains (devices_on g p) d = subst (λ (x : Plex). Contains (devices_on g x) d) same on in
          false_from_ne_true (failed d) (λ has. false≢true (sym none ∙ any_from_one failed (devices_on g p) d own has))
      by false e =
          let other : q ≢ p = differ q (λ same. false≢true (sym e ∙ ap (λ (n : Word). bytes_eq n p.name) same ∙ bytes_eq_self p.name)) in
          (or_neither (failed d) (not (is_data p.kind) && (list_any failed (devices_on g p) && is_log_device g name d)) (spared q (taken.others q there other) log d (still_on g g' goes q q (taken.lies q there other).columns d on))).0

  -- where one has, each of another log plex counts so
  pub not_spared : (good : ℕ) (o : Opening) (u : IsLogUsed g'.config good v o) (d : Word) → device_at g.members u.strip.disk ≡ Some d → list_any failed (devices_on g p) ≡ true → LogIsSpared g' name (failed_without g name p failed) → ⊥
  not_spared good o u d device has spared =
      let q = u.plex in
      let there' : Contains g'.config.plexes q = contains g'.config.plexes q u.there in
      let own : refers q.vol v.name ≡ true = (and_parts (refers q.vol v.name) (is_log q.kind) u.log_is).0 in
      let there : Contains g.config.plexes q = taken.none_added q there' own in
      let other : q ≢ p = λ same. false≢true (sym (taken.gone q there' (ap (λ (x : Plex). x.name) same)) ∙ own) in
      let log : is_log_plex_of name q ≡ true = subst (λ n. is_log_plex_of n q ≡ true) named u.log_is in
      let here : IsIn (strips_of g.config q) u.strip = subst (λ (columns : List (List Strip)). IsIn (flat_map (λ strips. strips) columns) u.strip) (taken.lies q there other).columns u.on in
      let on : Contains (devices_on g q) d = lies_on g q u.strip d here device in
      let on' : Contains (devices_on g' q) d = lies_on g' q u.strip d u.on (goes.devices u.strip.disk d device) in
      let of_log : is_log_device g name d ≡ true =
      any_from_one (λ (x : Plex). is_log_plex_of name x && is_among d (devices_on g x)) g.config.plexes q there
      (and_from (is_log_plex_of name q) (is_among d (devices_on g q)) log (any_from_one (λ (n : Word). bytes_eq n d) (devices_on g q) d on (bytes_eq_self d))) in
      let counts : (not (is_data p.kind) && (list_any failed (devices_on g p) && is_log_device g name d)) ≡ true =
      and_from (not (is_data p.kind)) (list_any failed (devices_on g p) && is_log_device g name d) (no_data p.kind (and_parts (refers p.vol v.name) (is_log p.kind) takes.log_is).1)
      (and_from (list_any failed (devices_on g p)) (is_log_device g name d) has of_log) in
      false≢true (sym (or_neither (failed d) (not (is_data p.kind) && (list_any failed (devices_on g p) && is_log_device g name d)) (spared q there' log d on')).1 ∙ counts)
