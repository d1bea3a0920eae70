-- What is known of a running volume of a whole group: it is a volume, and its pieces are on the group's disks.
use Rattle.std.proofs.Common.{◌≡◌, ◌∙◌, ℕ, List, [], ◌∷◌, ◌++◌, map, Some, ap, subst, inl, inr}
use Rattle.std.specs.List.{All, flat_map}
use Rattle.std.specs.BTreeMap.{is_at}
use Rattle.std.specs.Map.{set_value}
use Rattle.std.specs.Cmp.Lexicographic.{slice_cmp}
use Rattle.std.specs.Ordering.{nat_cmp}
use Rattle.vx_pages.specs.declared.local_piece.LocalPiece.{Ghosts}
use Rattle.vx_base.specs.Named.{Word}
use Rattle.vx_piece.specs.Seen.{Seen, Keeps}
use Rattle.vx_runs.specs.Run.{EachPiece}
use Rattle.vx_copies.specs.Disks.{disk_seen}
use Rattle.vx_copies.specs.Lists.{AllOf, AnyOf}
use Rattle.vx_copies.specs.declared.disk.Disk.{Disk}
use Rattle.vx_confdb.specs.Groups.{members}
use Rattle.vx_fronts.specs.Parted.{IsOfSome}
use Rattle.vx_fronts.proofs.Parted.{all_parts}
use Rattle.vx_volume.specs.Volume.{IsVolume, volume_seen}
use Rattle.vx_lending.specs.Left.{held_pieces}
use Rattle.vx_lending.specs.declared.public.Running.{Running}
use Rattle.vx_lending.specs.Public.{running_at, running_pieces, still_pieces, stuck_pieces}
use Rattle.vx_group_calls.specs.Causes.{ServedHasCause}
use Rattle.vx_group_calls.specs.declared.served.Served.{Served}
use Rattle.vx_group_calls.specs.declared.served.Served.TheVariants as served
use Rattle.vx_house.specs.View.{IsGroupWhole}
use Rattle.vx_house.specs.declared.house.Imported.{Imported}
use Rattle.vx_house_calls.proofs.Counts.{of_kept}
use Rattle.vx_house_calls.proofs.Entries.{IsSetAt, flat_around, set_at}
use Rattle.vx_house_calls.proofs.Houses.{disk_of, rose_there}
use Rattle.vx_run.specs.Grouped.{HasNumber, NamesFault}

all_amid : {X : Type 0} (Q : X → Type 0) (xs : List X) (x : X) (ys : List X) → AllOf Q (xs ++ x ∷ ys) → Q x
all_amid Q [] x ys all = all.0
all_amid Q (y ∷ xs) x ys all = all_amid Q xs x ys all.1

any_disk : {P : Type 0} (see : P → Seen) (number : ℕ) (ds : List (Disk P)) → AnyOf (λ h. h.seen.device ≡ number) (map (disk_seen see) ds) → AnyOf (HasNumber see number) ds
any_disk see number [] any = any
any_disk see number (d ∷ ds) (inl is) = inl is
any_disk see number (d ∷ ds) (inr more) = inr (any_disk see number ds more)

module _ {P : Type 0} {ghosts : Ghosts P} (see : P → Seen) (g : Imported P ghosts) (whole : IsGroupWhole see g) (name : Word) (r : Running P ghosts) (was : running_at g.public name ≡ Some r) where
  spot : IsSetAt g.public.running.entries (set_value (is_at (slice_cmp nat_cmp name)) g.public.running.entries r) r r
  spot = set_at (is_at (slice_cmp nat_cmp name)) r r g.public.running.entries was

  abbrev held : List Seen
  held = held_pieces see r.volume

  abbrev still : List Seen
  still = still_pieces see g.public

  abbrev front : List Seen
  front = flat_map (running_pieces see) spot.before

  abbrev rest : List Seen
  rest = flat_map (running_pieces see) spot.behind ++ flat_map (stuck_pieces see) g.public.stuck.items

  pub is_volume : IsVolume (volume_seen see r.volume)
  is_volume = all_amid (λ (e : Word × Running P ghosts). IsVolume (volume_seen see e.1.volume)) spot.before (spot.key, r) spot.behind (subst (AllOf (λ (e : Word × Running P ghosts). IsVolume (volume_seen see e.1.volume))) spot.was whole.volumes)

  of_disks : All (IsOfSome (members see g.base)) held
  of_disks =
      let around = ap (λ es. flat_map (running_pieces see) es ++ flat_map (stuck_pieces see) g.public.stuck.items) spot.was
      ∙ flat_around (running_pieces see) spot.before (spot.key, r) spot.behind (flat_map (stuck_pieces see) g.public.stuck.items) in
      let own = subst (λ ps. All (IsOfSome (members see g.base)) (still ++ ps)) around whole.parted.own in
      (all_parts (IsOfSome (members see g.base)) held rest (all_parts (IsOfSome (members see g.base)) front (held ++ rest) (all_parts (IsOfSome (members see g.base)) still (front ++ (held ++ rest)) own).1).1).0

  -- a device of which it tells a fault is that of a disk
  pub names_fault : (answer : Served) (later : Running P ghosts) → EachPiece Keeps held (held_pieces see later.volume) → ServedHasCause see answer r.volume later.volume → NamesFault see g.base.disks.items answer
  names_fault (served.Done parts blocks) later keeps cause = tt
  names_fault (served.Fault number parts) later keeps cause =
      any_disk see number g.base.disks.items (disk_of (members see g.base) held number of_disks (rose_there held (held_pieces see later.volume) number (of_kept held (held_pieces see later.volume) number keeps) cause.0))
  names_fault (served.Lost parts) later keeps cause = tt
