-- Records of which states alone are others, and what is found among them.
use Rattle.std.proofs.Common.{◌≡◌, ◌+◌, Bool, ◌&&◌, ◌||◌, cond, List, [], ◌∷◌, map, refl, sym, ◌∙◌, ap}
use Rattle.std.specs.List.{list_any, list_all, count_by, fold}
use Rattle.std.proofs.lemmas.List.Sums.{sum_by-cons}
use Rattle.vx_config_parts.specs.declared.dco.Dco.{Dco}
use Rattle.vx_config_parts.specs.declared.disk.Disk.{Disk}
use Rattle.vx_config_parts.specs.declared.group.Group.{Group}
use Rattle.vx_config_parts.specs.declared.object.Object.{Object}
use Rattle.vx_config_parts.specs.declared.object.Object.TheVariants.{SubdiskRecord, PlexRecord, VolRecord}
use Rattle.vx_config_parts.specs.declared.plex.Plex.{Plex}
use Rattle.vx_config_parts.specs.declared.snap.Snap.{Snap}
use Rattle.vx_config_parts.specs.declared.state.PlexState.{PlexState}
use Rattle.vx_config_parts.specs.declared.state.VolState.{VolState}
use Rattle.vx_config_parts.specs.declared.subdisk.Subdisk.{Subdisk}
use Rattle.vx_config_parts.specs.declared.vol.Vol.{Vol}
use Rattle.vx_config_parts.specs.Objects.{name_of, is_group, is_disk, is_subdisk, is_plex, is_vol, is_dco, is_snap}

abbrev pub plex_in : (Plex → PlexState) → Plex → Plex
plex_in f p = record p { state = f p }

abbrev pub vol_in : (Vol → VolState) → Vol → Vol
vol_in g v = record v { state = g v }

-- a plex and a volume in another state; any other record stays
abbrev pub restated : (Plex → PlexState) → (Vol → VolState) → Object → Object
restated f g (PlexRecord p) = PlexRecord (plex_in f p)
restated f g (VolRecord v) = VolRecord (vol_in g v)
restated f g o = o

-- ---- tests of a list that was changed record by record

module _ {X Y : Type 0} (h : X → Y) where
  pub any_changed : (t : Y → Bool) (u : X → Bool) → ((x : X) → t (h x) ≡ u x) → (xs : List X) → list_any t (map h xs) ≡ list_any u xs
  any_changed t u like [] = refl
  any_changed t u like (x ∷ xs) = λ i. like x i || any_changed t u like xs i

  pub all_changed : (t : Y → Bool) (u : X → Bool) → ((x : X) → t (h x) ≡ u x) → (xs : List X) → list_all t (map h xs) ≡ list_all u xs
  all_changed t u like [] = refl
  all_changed t u like (x ∷ xs) = λ i. like x i && all_changed t u like xs i

  pub count_changed : (t : Y → Bool) (u : X → Bool) → ((x : X) → t (h x) ≡ u x) → (xs : List X) → count_by t (map h xs) ≡ count_by u xs
  count_changed t u like [] = refl
  count_changed t u like (x ∷ xs) =
      sum_by-cons (λ y. cond (t y) 1 0) (h x) (map h xs)
      ∙ (λ i. cond (like x i) 1 0 + count_changed t u like xs i)
      ∙ sym (sum_by-cons (λ y. cond (u y) 1 0) x xs)

  pub fold_changed : {S : Type 0} (t : S → Y → S) (u : S → X → S) → ((s : S) (x : X) → t s (h x) ≡ u s x) → (s : S) (xs : List X) → fold t s (map h xs) ≡ fold u s xs
  fold_changed t u like s [] = refl
  fold_changed t u like s (x ∷ xs) = ap (λ r. fold t r (map h xs)) (like s x) ∙ fold_changed t u like (u s x) xs

-- ---- what such records pass

module _ (f : Plex → PlexState) (g : Vol → VolState) where
  pub name_same : (o : Object) → name_of (restated f g o) ≡ name_of o
  name_same (PlexRecord p) = refl
  name_same (VolRecord v) = refl
  name_same o = refl

  pub group_same : (t : Group → Bool) (o : Object) → is_group t (restated f g o) ≡ is_group t o
  group_same t (PlexRecord p) = refl
  group_same t (VolRecord v) = refl
  group_same t o = refl

  pub disk_same : (t : Disk → Bool) (o : Object) → is_disk t (restated f g o) ≡ is_disk t o
  disk_same t (PlexRecord p) = refl
  disk_same t (VolRecord v) = refl
  disk_same t o = refl

  pub subdisk_like : (t u : Subdisk → Bool) → ((s : Subdisk) → t s ≡ u s) → (o : Object) → is_subdisk t (restated f g o) ≡ is_subdisk u o
  subdisk_like t u like (SubdiskRecord s) = like s
  subdisk_like t u like (PlexRecord p) = refl
  subdisk_like t u like (VolRecord v) = refl
  subdisk_like t u like o = refl

  pub plex_like : (t u : Plex → Bool) → ((p : Plex) → t (plex_in f p) ≡ u p) → (o : Object) → is_plex t (restated f g o) ≡ is_plex u o
  plex_like t u like (PlexRecord p) = like p
  plex_like t u like (VolRecord v) = refl
  plex_like t u like o = refl

  pub vol_like : (t u : Vol → Bool) → ((v : Vol) → t (vol_in g v) ≡ u v) → (o : Object) → is_vol t (restated f g o) ≡ is_vol u o
  vol_like t u like (PlexRecord p) = refl
  vol_like t u like (VolRecord v) = like v
  vol_like t u like o = refl

  pub dco_same : (t : Dco → Bool) (o : Object) → is_dco t (restated f g o) ≡ is_dco t o
  dco_same t (PlexRecord p) = refl
  dco_same t (VolRecord v) = refl
  dco_same t o = refl

  pub snap_same : (t : Snap → Bool) (o : Object) → is_snap t (restated f g o) ≡ is_snap t o
  snap_same t (PlexRecord p) = refl
  snap_same t (VolRecord v) = refl
  snap_same t o = refl
