-- A group in which the log plexes of a volume lie where they lay: where no device of the log has failed by it, none has by the other.
use Rattle.std.proofs.Common.{◌≡◌, inl, inr, Bool, true, ℕ, List, [], ◌∷◌, Option, Some, None, refl, sym, subst}
use Rattle.std.specs.Prelude.{Contains}
use Rattle.std.specs.List.{flat_map}
use Rattle.vx_base.specs.Named.{Word}
use Rattle.vx_config_parts.specs.declared.plex.Plex.{Plex}
use Rattle.vx_config_parts.specs.Objects.{is_log_plex_of}
use Rattle.vx_layout.specs.declared.strip.Strip.{Strip}
use Rattle.vx_image.specs.Lies.{columns_of}
use Rattle.vx_image.proofs.PlexMembers.{IsIn, in_either, in_left, in_right}
use Rattle.vx_image.proofs.Members.{contains, is_in}
use Rattle.vx_moments.specs.World.{Group}
use Rattle.vx_moments.specs.Owners.{device_at, devices_on, listed}
use Rattle.vx_stages.specs.Logs.{LogIsSpared}

-- what each of some lists has, each of the others has
moved : (f g : Strip → List Word) → ((s : Strip) (d : Word) → IsIn (f s) d → IsIn (g s) d) → (strips : List Strip) (d : Word) → IsIn (flat_map f strips) d → IsIn (flat_map g strips) d
moved f g more [] d there = there
moved f g more (s ∷ strips) d there = elim (in_either (f s) (flat_map f strips) d there) [
  | inl here ↦ in_left (g s) (flat_map g strips) d (more s d here)
  | inr later ↦ in_right (g s) (flat_map g strips) d (moved f g more strips d later)
]

listed_is : (o : Option Word) (d : Word) → IsIn (listed o) d → o ≡ Some d
listed_is None d there = absurd there
listed_is (Some x) d (inl same) = cc
listed_is (Some x) d (inr none) = absurd none

is_listed : (o : Option Word) (d : Word) → o ≡ Some d → IsIn (listed o) d
is_listed o d is = subst (λ (x : Option Word). IsIn (listed x) d) (sym is) (inl refl)

-- the plex of the volume's log is one in the other group, and lies where it lay
pub record IsLogPlexStill (g g' : Group) (vol : Word) (p : Plex) : Type 0 where
  pub plex : Plex
  pub there : Contains g'.config.plexes plex
  pub log_is : is_log_plex_of vol plex ≡ true
  pub columns : columns_of g'.config plex ≡ columns_of g.config p

module _ (g g' : Group) (devices : (slot : ℕ) (d : Word) → device_at g.members slot ≡ Some d → device_at g'.members slot ≡ Some d) where
  still_on : (p q : Plex) → columns_of g'.config q ≡ columns_of g.config p → (d : Word) → Contains (devices_on g p) d → Contains (devices_on g' q) d
  still_on p q same d there =
      let strips = flat_map (λ (strips : List Strip). strips) (columns_of g.config p) in
      contains (devices_on g' q) d
      (subst (λ (columns : List (List Strip)). IsIn (flat_map (λ (strip : Strip). listed (device_at g'.members strip.disk)) (flat_map (λ (strips : List Strip). strips) columns)) d) (sym same)
      (moved (λ (strip : Strip). listed (device_at g.members strip.disk)) (λ (strip : Strip). listed (device_at g'.members strip.disk))
      (λ s x one. is_listed (device_at g'.members s.disk) x (devices s.disk x (listed_is (device_at g.members s.disk) x one))) strips d (is_in (devices_on g p) d there)))

  pub spared_before : (vol : Word) (failed : Word → Bool) → ((p : Plex) → Contains g.config.plexes p → is_log_plex_of vol p ≡ true → IsLogPlexStill g g' vol p) → LogIsSpared g' vol failed → LogIsSpared g vol failed
  spared_before vol failed stays spared p there log_is d on =
      let q = stays p there log_is in
      spared q.plex q.there q.log_is d (still_on p q.plex q.columns d on)
