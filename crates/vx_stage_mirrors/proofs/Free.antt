-- The map of a mirror that is planned is free in the volume that it is of, which has a log.
use Rattle.std.proofs.Common.{◌≡◌, ◌≢◌, ◌∙◌, ◌⊎◌, ℕ, Bool, true, false, cond, List, [], ◌∷◌, Option, Some, None, refl, sym, ap, subst, inl, inr}
use Rattle.std.specs.Prelude.{Contains, is_some, nat_lt}
use Rattle.std.proofs.lemmas.Bool.{false≢true}
use Rattle.std.specs.Str.{bytes_eq}
use Rattle.vx_base.specs.Named.{Word}
use Rattle.vx_base.proofs.NamedLemmas.{bytes_eq_same}
use Rattle.vx_config_parts.specs.declared.fault.ObjectFault.TheVariants.{Limit, NoLog}
use Rattle.vx_config_parts.specs.declared.fault.Limit.TheVariants as limit
use Rattle.vx_config_parts.specs.declared.plex.Plex.{Plex}
use Rattle.vx_config_parts.specs.declared.plex.PlexKind.TheVariants.{Data}
use Rattle.vx_config_parts.specs.declared.vol.Vol.{Vol}
use Rattle.vx_config_parts.specs.Objects.{is_data_plex_of}
use Rattle.vx_rules.specs.Faults.{first_some}
use Rattle.vx_rules.specs.Faults.{unless as unless_fault}
use Rattle.vx_rules.specs.Maps.{plex_map_fits}
use Rattle.vx_objects.specs.declared.config.Config.{Config}
use Rattle.vx_objects.specs.Config.{objects_of}
use Rattle.vx_image.specs.Bytes.{map_or_zero, relation_maps}
use Rattle.vx_image.specs.UsedPlexes.{IsVolOf}
use Rattle.vx_image.proofs.Members.{contains, is_in}
use Rattle.vx_new_volumes.specs.Mirrors.{plex_count, room_fault}
use Rattle.vx_new_volumes.specs.Tests.{absent_disk}
use Rattle.vx_image.proofs.PlexMembers.{IsIn}
use Rattle.vx_lending.proofs.Distinct.{filtered}
use Rattle.vx_lending.proofs.Maps.{among_in, in_among}
use Rattle.vx_lending.specs.RegionsTaken.{is_among}
use Rattle.vx_config_parts.specs.declared.snap.Snap.{Snap}
use Rattle.vx_lending.proofs.Rules.{plex_fits}
use Rattle.vx_volume_laws.specs.Keeping.{data_plexes}
use Rattle.vx_answers.specs.declared.refusal.Refusal.TheVariants as refusal
use Rattle.vx_group_edits.specs.Mirrors.{IsFreeMapOf}
use Rattle.vx_stages.specs.Mirroring.{found_refusal, mirror_refusal, volume_refusal}
use Rattle.vx_stages.specs.Refusals.{refusal_from}
use Rattle.vx_stages.specs.Tests.{volume_in}

-- ---- the volume has a log

later_none : {A : Type 0} (a b : Option A) → first_some a b ≡ None → b ≡ None
later_none None b e = e
later_none (Some x) b e = absurd (let no : Some x ≡ None = e in cc)

-- no refusal is made of the tests of room, so the volume has a log
has_log : (few logged : Bool) (name : Word) → refusal_from (first_some (unless_fault few (Limit limit.Plexes)) (unless_fault logged (NoLog name))) ≡ None → logged ≡ true
has_log few true name e = refl
has_log true false name e = absurd (let no : Some (refusal.NoLog name) ≡ None = e in cc)
has_log false false name e = absurd (let no : Some (refusal.Limit limit.Plexes) ≡ None = e in cc)

pub prepared_by : (c : Config) (name : Word) (disks : List Word) (v : Vol) → volume_in name c.volumes ≡ Some v → mirror_refusal true c name disks ≡ None → is_some v.dco ≡ true
prepared_by c name disks v found fits =
    let here : volume_refusal true c disks v ≡ None = sym (ap (found_refusal true c name disks) found) ∙ fits in
    has_log (nat_lt (plex_count (objects_of c) v.name) 32) (is_some v.dco) v.name (later_none None (refusal_from (room_fault (objects_of c) v)) (later_none (refusal_from (absent_disk (objects_of c) disks)) _ here))

-- a volume that does not run is refused
pub runs_by : (runs : Bool) (c : Config) (name : Word) (disks : List Word) (v : Vol) → volume_in name c.volumes ≡ Some v → mirror_refusal runs c name disks ≡ None → runs ≡ true
runs_by true c name disks v found fits = refl
runs_by false c name disks v found fits =
    let here : volume_refusal false c disks v ≡ None = sym (ap (found_refusal false c name disks) found) ∙ fits in
    let no : Some (refusal.NotStarted v.name) ≡ None = later_none (refusal_from (absent_disk (objects_of c) disks)) _ here in
    cc

-- ---- nothing of it has the map

relation_in : (b d : Bool) (s : Snap) (k : ℕ) (rest : List ℕ) → is_among k (cond b (s.map ∷ rest) (cond d (s.ofmap ∷ rest) rest)) ≡ true →
    (((b ≡ true) × (s.map ≡ k)) ⊎ ((d ≡ true) × (s.ofmap ≡ k))) ⊎ (is_among k rest ≡ true)
relation_in true d s k rest h = elim (among_in k (s.map ∷ rest) h) [ inl here ↦ inl (inl (refl, sym here)) | inr later ↦ inr (in_among k rest later) ]
relation_in false true s k rest h = elim (among_in k (s.ofmap ∷ rest) h) [ inl here ↦ inl (inr (refl, sym here)) | inr later ↦ inr (in_among k rest later) ]
relation_in false false s k rest h = inr h

relation_of : (ss : List Snap) (vol : Word) (k : ℕ) → is_among k (relation_maps ss vol) ≡ true →
    (s : Snap) × IsIn ss s × (((bytes_eq s.vol vol ≡ true) × (s.map ≡ k)) ⊎ ((bytes_eq s.of vol ≡ true) × (s.ofmap ≡ k)))
relation_of [] vol k h = absurd (false≢true h)
relation_of (s ∷ ss) vol k h = elim (relation_in (bytes_eq s.vol vol) (bytes_eq s.of vol) s k (relation_maps ss vol) h) [
  | inl here ↦ (s, inl refl, here)
  | inr later ↦ let r = relation_of ss vol k later in (r.0, inr r.1, r.2)
]

module _ (c : Config) (v : Vol) (of : IsVolOf c v) (prepared : is_some v.dco ≡ true) (m : ℕ) (free : IsFreeMapOf c v.name m) where
  has_one : (o : Option ℕ) → plex_map_fits Data (is_some v.dco) o ≡ true → map_or_zero o ≡ m → o ≡ Some m
  has_one None fits e = absurd (let no : plex_map_fits Data true None ≡ true = subst (λ b. plex_map_fits Data b None ≡ true) prepared fits in false≢true no)
  has_one (Some k) fits e = ap (λ n. Some n) e

  pub none_has : (q : Plex) → Contains (data_plexes c v.name) q → map_or_zero q.map ≢ m
  none_has q there same =
      let f = filtered (is_data_plex_of v.name) c.plexes q (is_in (data_plexes c v.name) q there) in
      free.plexes q (contains c.plexes q f.0) f.1 (has_one q.map (plex_fits c v of q f.0 f.1) same)

  pub no_relation : Contains (relation_maps c.snaps v.name) m → ⊥
  no_relation there =
      let r = relation_of c.snaps v.name m (in_among m (relation_maps c.snaps v.name) (is_in (relation_maps c.snaps v.name) m there)) in
      elim r.2 [
        | inl vol ↦ free.snapshots r.0 (contains c.snaps r.0 r.1) (bytes_eq_same r.0.vol v.name vol.0) vol.1
        | inr of_it ↦ free.originals r.0 (contains c.snaps r.0 r.1) (bytes_eq_same r.0.of v.name of_it.0) of_it.1
      ]
