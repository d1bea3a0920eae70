-- The log plexes that the copies of the log of a running volume are on, and the devices that they lie on.
use Rattle.std.proofs.Common.{◌≡◌, ◌∙◌, inl, inr, ℕ, ◌+◌, ◌<◌, Bool, true, false, List, [], ◌∷◌, length, map, Option, Some, None, refl, sym, ap, subst, arith}
use Rattle.std.specs.Prelude.{◌&&◌, ◌==◌, ◌⊎◌, Contains, nat_le}
use Rattle.std.specs.List.{AllZip, flat_map, list_all}
use Rattle.std.proofs.lemmas.Bool.{and_parts, eqb-true}
use Rattle.vx_base.specs.Named.{Word}
use Rattle.vx_mask.specs.Mask.{has}
use Rattle.vx_piece.specs.Seen.{Seen}
use Rattle.vx_pages.specs.declared.local_piece.LocalPiece.{Ghosts}
use Rattle.vx_layout.specs.declared.layout.Layout.{Layout}
use Rattle.vx_layout.specs.declared.run.Run.{Run}
use Rattle.vx_layout.specs.declared.strip.Strip.{Strip}
use Rattle.vx_layout.specs.Columns.{column_at, column_length}
use Rattle.vx_layout.proofs.ValidLemmas.{Parts, parts_of_layout}
use Rattle.vx_carve.specs.Strips.{lies_in}
use Rattle.vx_config_parts.specs.declared.disk.Disk.{Disk}
use Rattle.vx_config_parts.specs.declared.plex.Plex.{Plex}
use Rattle.vx_config_parts.specs.declared.vol.Vol.{Vol}
use Rattle.vx_config_parts.specs.Objects.{is_log_plex_of}
use Rattle.vx_objects.specs.declared.config.Config.{Config}
use Rattle.vx_image.specs.Lies.{columns_of, strips_of}
use Rattle.vx_image.specs.Room.{public_of}
use Rattle.vx_image.specs.UsedPlexes.{used_logs}
use Rattle.vx_image.proofs.Members.{contains}
use Rattle.vx_image.proofs.PlexMembers.{IsIn, all_in, any_in, from_map, in_either, in_left, in_right}
use Rattle.vx_lending.specs.Form.{IsLayoutOf}
use Rattle.vx_lending.specs.FormLaws.{good_disks}
use Rattle.vx_lending.specs.declared.public.Running.{Running}
use Rattle.vx_lending.proofs.Places.{columns_lie, log_taken}
use Rattle.vx_moments.specs.World.{Group}
use Rattle.vx_moments.specs.Owners.{device_at, devices_on, listed}
use Rattle.vx_group_volumes.specs.Places.{IsSlotOf, RunsInPlace, disks_at}
use Rattle.vx_group_volumes.specs.Runs.{Opening}
use Rattle.vx_joined_volumes.specs.Joined.{good_joined, opening_joined}
use Rattle.vx_yielded_volumes.proofs.Copies.{logs_lie}
use Rattle.vx_stage_mirrors.proofs.Opened.{opened_on}

-- ---- strips

-- a layout has a strip
pub layout_some : (l : Layout) → (s : Strip) × IsIn (flat_map (λ strips. strips) l.columns) s
layout_some l = let parts = parts_of_layout l.unit l.columns l.valid in first l.columns parts.some parts.sectors
  where
    first : (columns : List (List Strip)) → 0 < length columns → 0 < column_length (column_at columns 0) → (s : Strip) × IsIn (flat_map (λ strips. strips) columns) s
    first [] some sectors = absurd (omega (arith, some))
    first ([] ∷ columns) some sectors = absurd (omega (arith, sectors))
    first ((s ∷ strips) ∷ columns) some sectors = (s, inl refl)

in_flat : (test : Strip → Bool) (columns : List (List Strip)) (x : Strip) → list_all (λ strips. list_all test strips) columns ≡ true → IsIn (flat_map (λ strips. strips) columns) x → test x ≡ true
in_flat test [] x all there = absurd there
in_flat test (strips ∷ columns) x all there =
    let parts = and_parts (list_all test strips) (list_all (λ strips. list_all test strips) columns) all in
    elim (in_either strips (flat_map (λ strips. strips) columns) x there) [
      | inl here ↦ all_in test strips x parts.0 here
      | inr later ↦ in_flat test columns x parts.1 later
    ]

-- what one of some lists has, they have together
pub in_flat_map : {A B : Type 0} (f : A → List B) (xs : List A) (x : A) (y : B) → IsIn xs x → IsIn (f x) y → IsIn (flat_map f xs) y
in_flat_map f [] x y there has = absurd there
in_flat_map f (z ∷ xs) x y (inl same) has = in_left (f z) (flat_map f xs) y (subst (λ w. IsIn (f w) y) same has)
in_flat_map f (z ∷ xs) x y (inr later) has = in_right (f z) (flat_map f xs) y (in_flat_map f xs x y later has)

-- ---- devices

is_listed : (o : Option Word) (d : Word) → o ≡ Some d → IsIn (listed o) d
is_listed o d is = subst (λ (x : Option Word). IsIn (listed x) d) (sym is) (inl refl)

-- a plex lies on the device of each of its strips
pub lies_on : (g : Group) (q : Plex) (s : Strip) (d : Word) → IsIn (strips_of g.config q) s → device_at g.members s.disk ≡ Some d → Contains (devices_on g q) d
lies_on g q s d there is = contains (devices_on g q) d (in_flat_map (λ (strip : Strip). listed (device_at g.members strip.disk)) (strips_of g.config q) s d there (is_listed (device_at g.members s.disk) d is))

-- ---- the log of a running volume

first_zip : {A B : Type 0} (R : A → B → Type 0) (xs : List A) (ys : List B) → AllZip R xs ys → 0 < length ys → (x : A) × IsIn xs x × (y : B) × R x y
first_zip R xs [] zip some = absurd (omega (arith, some))
first_zip R [] (y ∷ ys) zip some = absurd zip
first_zip R (x ∷ xs) (y ∷ ys) zip some = (x, inl refl, y, zip.0)

-- A log plex of the volume has a strip, whose disk was good as it was opened, or is good now.
pub record IsLogUsed (c : Config) (good : ℕ) (v : Vol) (o : Opening) : Type 0 where
  pub plex : Plex
  pub there : IsIn c.plexes plex
  pub log_is : is_log_plex_of v.name plex ≡ true
  pub strip : Strip
  pub on : IsIn (strips_of c plex) strip
  pub slot : IsSlotOf (disks_at o) strip.disk ⊎ (has good strip.disk ≡ true)

module _ {P : Type 0} {ghosts : Ghosts P} (running : Running P ghosts) (c : Config) (good : ℕ) (numbers : List ℕ) (v : Vol) (placed : RunsInPlace ghosts.seen c good numbers v running) where
  abbrev o : Opening
  o = placed.runs.opening

  abbrev joined : ℕ
  joined = good_joined placed.runs.opening good

  -- each strip of a log plex that is used is on one of those disks
  strip_good : (q : Plex) → IsIn (used_logs v.dco c joined false v.name) q → (s : Strip) → IsIn (strips_of c q) s → IsSlotOf (disks_at o) s.disk ⊎ (has good s.disk ≡ true)
  strip_good q used s on =
      let lies = in_flat (lies_in (map public_of (good_disks joined c.disks))) (columns_of c q) s (columns_lie c joined q (log_taken c joined v false v.dco q used).0.held q.ncol 0) on in
      let r = any_in (λ (r : Run). r.disk == s.disk && nat_le r.sector s.start && nat_le (s.start + s.count) (r.sector + r.count)) (map public_of (good_disks joined c.disks)) lies in
      let d = from_map public_of (good_disks joined c.disks) r.0 r.1 in
      let first = and_parts (r.0.disk == s.disk && nat_le r.0.sector s.start) (nat_le (s.start + s.count) (r.0.sector + r.0.count)) r.2 in
      let slot : r.0.disk ≡ s.disk = eqb-true r.0.disk s.disk (and_parts (r.0.disk == s.disk) (nat_le r.0.sector s.start) first.0).0 in
      opened_on o c good v s.disk (d.0, contains (good_disks joined c.disks) d.0 d.1, ap (λ (x : Run). x.disk) (sym d.2) ∙ slot)

  -- where its log has a copy there is one
  pub log_used : 0 < length running.form.logs.items → IsLogUsed c good v placed.runs.opening
  log_used some =
      let one = first_zip (IsLayoutOf c) (used_logs v.dco c joined false v.name) running.form.logs.items (logs_lie ghosts.seen running c good numbers v placed) some in
      let taken = log_taken c joined v false v.dco one.0 one.1 in
      let s = layout_some one.2 in
      let on : IsIn (strips_of c one.0) s.0 = subst (λ (columns : List (List Strip)). IsIn (flat_map (λ strips. strips) columns) s.0) one.3.columns s.1 in
      record { plex = one.0; there = taken.0.there; log_is = taken.1; strip = s.0; on = on; slot = strip_good one.0 one.1 s.0 on }
