-- A volume of the group that runs is one that its configuration records.
use Rattle.std.proofs.Common.{◌≡◌, ◌∙◌, ◌||◌, Bool, true, false, List, [], ◌∷◌, Option, Some, None, refl, sym, ap, subst, inl, inr}
use Rattle.std.specs.List.{list_any}
use Rattle.std.specs.Prelude.{IsSome}
use Rattle.std.specs.Str.{bytes_eq}
use Rattle.vx_pages.specs.declared.local_piece.LocalPiece.{Ghosts}
use Rattle.vx_base.specs.Named.{Word}
use Rattle.vx_base.proofs.NamedLemmas.{bytes_eq_self}
use Rattle.vx_piece.specs.Seen.{Seen}
use Rattle.vx_config_parts.specs.declared.vol.Vol.{Vol}
use Rattle.vx_copies.specs.Disks.{DiskSeen}
use Rattle.vx_image.proofs.PlexMembers.{IsIn}
use Rattle.vx_group_edits.proofs.ByKind.{vol_recorded}
use Rattle.vx_moments.specs.Holding.{has_volume}
use Rattle.vx_moments.specs.World.{Group, Volume}
use Rattle.vx_lending.specs.declared.public.Running.{Running}
use Rattle.vx_house.specs.Runs.{IsAtRun}

-- a volume is among these by its name
among_names : (vs : List Vol) (v : Vol) → IsIn vs v → list_any (λ x. bytes_eq x.name v.name) vs ≡ true
among_names [] v there = absurd there
among_names (x ∷ vs) v (inl is) = ap (λ n. bytes_eq n v.name || list_any (λ x. bytes_eq x.name v.name) vs) (ap (λ (y : Vol). y.name) (sym is)) ∙ ap (λ b. b || list_any (λ x. bytes_eq x.name v.name) vs) (bytes_eq_self v.name)
among_names (x ∷ vs) v (inr there) = by (bytes_eq x.name v.name) (among_names vs v there)
  where
    by : (b : Bool) → list_any (λ x. bytes_eq x.name v.name) vs ≡ true → (b || list_any (λ x. bytes_eq x.name v.name) vs) ≡ true
    by true rest = refl
    by false rest = rest

module _ {P : Type 0} {ghosts : Ghosts P} (see : P → Seen) (hs : List DiskSeen) where
  pub run_recorded : (g : Option Group) (name : Word) (r : Option (Running P ghosts)) (w : Option Volume) → IsAtRun see hs g name r w → IsSome r → has_volume g name ≡ true
  run_recorded g name None w is some = absurd (cc)
  run_recorded g name (Some r) None is some = absurd is
  run_recorded None name (Some r) (Some w) is some = absurd is
  run_recorded (Some g) name (Some r) (Some w) is some = subst (λ n. has_volume (Some g) n ≡ true) is.named (among_names g.config.volumes is.of (vol_recorded g.config is.of is.placed.runs.recorded))

  -- what is not recorded does not run
  pub unrecorded_rests : (g : Option Group) (name : Word) (r : Option (Running P ghosts)) (w : Option Volume) → IsAtRun see hs g name r w → has_volume g name ≡ false → r ≡ None
  unrecorded_rests g name None w is none = refl
  unrecorded_rests g name (Some r) w is none = let yes = run_recorded g name (Some r) w is refl in cc

  -- by a volume of the configuration
  pub recorded_run : (g : Group) (name : Word) (r : Running P ghosts) (w : Option Volume) → IsAtRun see hs (Some g) name (Some r) w → (v : Vol) × IsIn g.config.volumes v × (v.name ≡ name)
  recorded_run g name r None is = absurd is
  recorded_run g name r (Some w) is = (is.of, vol_recorded g.config is.of is.placed.runs.recorded, is.named)
