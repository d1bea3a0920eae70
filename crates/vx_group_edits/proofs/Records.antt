-- The records of a mirror: one plex, and behind it subdisks that name it.
use Rattle.std.proofs.Common.{◌≡◌, ℕ, Bool, true, false, Option, Some, List, [], ◌∷◌, ◌++◌, map, refl, ap, subst}
use Rattle.std.specs.List.{list_all}
use Rattle.std.specs.Str.{bytes_eq}
use Rattle.std.proofs.lemmas.Bool.{and_from, and_parts, false≢true, or_left}
use Rattle.vx_base.specs.Named.{Word}
use Rattle.vx_base.proofs.NamedLemmas.{bytes_eq_self}
use Rattle.vx_config_parts.specs.declared.object.Object.{Object}
use Rattle.vx_config_parts.specs.declared.object.Object.TheVariants.{SubdiskRecord, PlexRecord}
use Rattle.vx_config_parts.specs.declared.plex.Plex.{Plex}
use Rattle.vx_config_parts.specs.declared.vol.Vol.{Vol}
use Rattle.vx_config_parts.specs.Objects.{name_of, refers}
use Rattle.vx_objects.specs.Edits.{names_plex_of}
use Rattle.vx_space.specs.declared.extent.Extent.{Extent}
use Rattle.vx_new_volumes.specs.declared.parts.Plan.{Plan}
use Rattle.vx_new_volumes.specs.Laying.{Laid, put_plexes, subdisk}
use Rattle.vx_new_volumes.specs.Mirrors.{mirror_of, mirror_plex, plex_named}
use Rattle.vx_new_volumes.specs.Naming.{next_name}
use Rattle.vx_group_edits.specs.OfVolume.{is_part_of}
use Rattle.vx_group_edits.proofs.Lists.{all_each}
use Rattle.vx_group_edits.specs.Joins.{plexes_in}
use Rattle.vx_group_edits.specs.Mirrors.{IsMirrorAt}
use Rattle.vx_group_edits.specs.MirrorLaws.{EachMirrorIsOfItsVolume}
use Rattle.vx_group_edits.proofs.Subdisks.{plex_passes, then_some}

-- ---- subdisks of one plex

-- before anything is laid
abbrev pub nothing_laid : Laid
nothing_laid = record { objects = []; nexts = [] }

-- the record is a subdisk of the plex
abbrev is_on : Word → Object → Bool
is_on plex (SubdiskRecord s) = refers s.plex plex
is_on plex other = false

abbrev AreOn : Word → List Object → Type 0
AreOn plex os = list_all (is_on plex) os ≡ true

no_plexes : (plex : Word) (os : List Object) → AreOn plex os → plexes_in os ≡ []
no_plexes plex [] on = refl
no_plexes plex (SubdiskRecord s ∷ os) on = no_plexes plex os (and_parts (refers s.plex plex) (list_all (is_on plex) os) on).1
no_plexes plex (o ∷ os) on = absurd (false≢true on)

-- ---- the plex with them

named_on : (vol : Word) (p : Plex) (rest : List Object) (attribute : Option Word) → refers p.vol vol ≡ true → refers attribute p.name ≡ true → names_plex_of attribute vol (PlexRecord p ∷ rest) ≡ true
named_on vol p rest attribute own on = or_left _ _ (and_from (refers attribute p.name) (refers p.vol vol) on own)

parts_on : (vol : Word) (p : Plex) (rest os : List Object) → refers p.vol vol ≡ true → AreOn p.name os → list_all (is_part_of vol (PlexRecord p ∷ rest)) os ≡ true
parts_on vol p rest [] own on = refl
parts_on vol p rest (SubdiskRecord s ∷ os) own on =
    let parts = and_parts (refers s.plex p.name) (list_all (is_on p.name) os) on in
    and_from _ _ (named_on vol p rest s.plex own parts.0) (parts_on vol p rest os own parts.1)
parts_on vol p rest (o ∷ os) own on = absurd (false≢true on)

mirror_at : (v : Vol) (lowest : Plex) (m : ℕ) (name : Word) (rest : List Object) → AreOn name rest → IsMirrorAt v m (PlexRecord (mirror_plex v lowest m name) ∷ rest) (mirror_plex v lowest m name)
mirror_at v lowest m name rest on =
    let p = mirror_plex v lowest m name in
    record {
      first = (rest, refl);
      plexes = ap (λ ps. p ∷ ps) (no_plexes name rest on);
      of = and_from _ _ (bytes_eq_self v.name) (parts_on v.name p rest rest (bytes_eq_self v.name) on);
      own = and_from (bytes_eq v.name v.name) true (bytes_eq_self v.name) refl;
      state = refl;
      map = refl;
    }

-- ---- the records of a mirror

-- the plex has this name, and this is laid behind it of the plan
pub record IsMade (group : List Object) (v : Vol) (lowest : Plex) (m : ℕ) (plan : Plan) (added : List Object) : Type 0 where
  pub name : Word
  pub laid : Laid
  pub put : put_plexes (map name_of group ++ name ∷ []) (name ∷ []) plan.plexes nothing_laid ≡ Some laid
  pub are : PlexRecord (mirror_plex v lowest m name) ∷ laid.objects ≡ added

module _ (group : List Object) (v : Vol) (lowest : Plex) (m : ℕ) (plan : Plan) where
  made_named : (name : Word) (added : List Object) → plex_named (map name_of group) (mirror_plex v lowest m name) plan ≡ Some added → IsMade group v lowest m plan added
  made_named name added is =
      let p = mirror_plex v lowest m name in
      let t = then_some (put_plexes (map name_of group ++ name ∷ []) (name ∷ []) plan.plexes nothing_laid) (λ l. Some (PlexRecord p ∷ l.objects)) added is in
      record { name = name; laid = t.0; put = t.1; are = cc (t.2) }

  pub mirror_made : (added : List Object) → mirror_of group v lowest m plan ≡ Some added → IsMade group v lowest m plan added
  unfolding mirror_of
  mirror_made added is =
      let t = then_some (next_name (map name_of group) v.name 1) (λ t. plex_named (map name_of group) (mirror_plex v lowest m t.name) plan) added is in
      made_named t.0.name added t.2

-- where the subdisks of each extent that is fit pass a test, and the plan has such extents alone, all that is laid passes it
pub mirror_passes : (test : Object → Bool) (fit : Extent → Bool) (group : List Object) (v : Vol) (lowest : Plex) (m : ℕ) (plan : Plan) (added : List Object) (made : IsMade group v lowest m plan added) →
    ((name : Word) (col at : ℕ) (e : Extent) → fit e ≡ true → test (subdisk name made.name col at e) ≡ true) → list_all (list_all (list_all fit)) plan.plexes ≡ true → list_all test made.laid.objects ≡ true
mirror_passes test fit group v lowest m plan added made each fits = plex_passes test fit (map name_of group ++ made.name ∷ []) made.name each plan.plexes nothing_laid made.laid fits made.put refl

-- whatever the plan, they are of the plex
any_plan : (ps : List (List (List Extent))) → list_all (list_all (list_all (λ e. true))) ps ≡ true
any_plan ps = all_each (list_all (list_all (λ e. true))) ps (λ p there. all_each (list_all (λ e. true)) p (λ es here. all_each (λ e. true) es (λ e on. refl)))

pub mirror_is_of : EachMirrorIsOfItsVolume
mirror_is_of group v lowest m plan added is =
    let made = mirror_made group v lowest m plan added is in
    let on = mirror_passes (is_on made.name) (λ e. true) group v lowest m plan added made (λ name col at e any. bytes_eq_self made.name) (any_plan plan.plexes) in
    let p = mirror_plex v lowest m made.name in
    (p, refl, subst (λ os. IsMirrorAt v m os p) made.are (mirror_at v lowest m made.name made.laid.objects on))
