-- Devices that nobody holds, and what an import reads of each at most.
use Rattle.std.proofs.Common.{◌≡◌, ◌∙◌, ◌⊎◌, ◌≤◌, ◌+◌, ℕ, Bool, true, false, cond, List, [], Option, Some, None, refl, sym, subst, inl, inr, arith}
use Rattle.std.specs.Prelude.{IfSome, IsSome}
use Rattle.vx_pages.specs.declared.local_piece.LocalPiece.{Ghosts}
use Rattle.vx_base.specs.Named.{Word}
use Rattle.vx_header.specs.Said.{toggle_of}
use Rattle.vx_header.specs.Named.{header_of}
use Rattle.vx_piece.specs.Seen.{Seen}
use Rattle.vx_shelf.specs.Listed.{Lists}
use Rattle.vx_copies.specs.Image.{names_group, text_sectors}
use Rattle.vx_moments.specs.World.{Device}
use Rattle.vx_moments.specs.Moment.{Moment}
use Rattle.vx_moments.specs.Holding.{IsHeld, is_among}
use Rattle.vx_stages.specs.Finding.{import_sectors}
use Rattle.vx_stages.specs.Stages.{IsFree, ImportReads}
use Rattle.vx_house.specs.Holders.{holders, held_as}
use Rattle.vx_house.specs.Reading.{Stays}
use Rattle.vx_house.specs.Scene.{Shelved, Scene, seen_in, seen_at, reads_at, counts_of}
use Rattle.vx_house.specs.View.{Keeps, IsMoment, IsDeviceOf, is_lent, at, scene}
use Rattle.vx_house.specs.declared.house.House.{House}
use Rattle.vx_house.proofs.Free.{held_out}
use Rattle.vx_house.proofs.Readings.{stays_writes}
use Rattle.vx_stage_import.specs.Gathering.{IsHeaderRead}

some_device : (lent : Bool) (s : Option Seen) (d : Option Device) → IsSome s → IsDeviceOf lent s d → IsSome d
some_device lent None d some of = cc
some_device lent (Some s) None some of = absurd of
some_device lent (Some s) (Some d) some of = refl

-- the header is read of each
header_within : (group : Word) (d : Device) → 1 ≤ import_sectors group d
header_within group d = by (names_group group (header_of (d.contents 0)))
  where
    by : (b : Bool) → 1 ≤ cond b (2 + text_sectors (toggle_of (d.contents 1))) 1
    by true = omega arith
    by false = omega arith

module _ {P : Type 0} {ghosts : Ghosts P} (see : P → Seen) (group : Word) (first : Shelved) (h : House P ghosts) (keeps : Keeps see (at first h)) (m : Moment) (is : IsMoment see (at first h) m) where
  abbrev start : Scene
  start = scene see (at first h)

  -- nothing is held under the name in the house: no volume has the device, and nobody else
  pub not_held_here : (name : Word) → held_as (holders see h) name ≡ None → IsHeld m.world name → ⊥
  not_held_here name none held =
      let out : IsSome (first.held name) = held_out see h m.world is.volumes_are is.group_is first.held keeps.devices.each name held in
      let free : first.held name ≡ None = keeps.devices.only name none in cc

  -- a device that the shelf tells, and that nobody holds, is free
  free_told : (names : List Word) → IfSome first.free (λ devices. Lists names devices first.held) → (name : Word) → is_among name names ≡ true → held_as (holders see h) name ≡ None → IsFree m.world [] name
  free_told names lists name among none = (by first.free lists is.told (subst (λ o. IsDeviceOf (is_lent h name) (seen_in o first.free name) (m.world.devices name)) none (is.devices_are name)), (not_held_here name none, refl))
    where
      by : (free : Option (Word → Option Seen)) → IfSome free (λ devices. Lists names devices first.held) → IsSome free → IsDeviceOf (is_lent h name) (seen_in None free name) (m.world.devices name) → IsSome (m.world.devices name)
      by None lists told of = cc
      by (Some d) lists told of = elim ((lists name).0 among) [
        | inl here ↦ some_device (is_lent h name) (d name) (m.world.devices name) here of
        | inr held ↦ absurd (let out : first.held name ≡ None = keeps.devices.only name none in let there : IsSome (first.held name) = held in cc)
      ]

  -- so many sectors in all: no more than before, or the device is free, and no more than an import reads of it were read since
  abbrev pub IsReadSo : Word → ℕ → Type 0
  IsReadSo name count = (count ≡ reads_at start name) ⊎ (IsFree m.world [] name × ((d : Device) → m.world.devices name ≡ Some d → count ≤ reads_at start name + import_sectors group d))

  pub header_so : (names : List Word) → IfSome first.free (λ devices. Lists names devices first.held) → (new : Scene) (name : Word) → IsHeaderRead names start new name → IsReadSo name (reads_at new name)
  header_so names lists new name (inl same) = inl same
  header_so names lists new name (inr (among, none, most)) = inr (free_told names lists name among none, λ d device. let one = header_within group d in omega (arith, most, one))

  pub reads_so : (end : Scene) → ((name : Word) → Stays (seen_at start name) (seen_at end name)) → ((name : Word) → IsReadSo name (reads_at end name)) → ImportReads group m.world m.counts (counts_of end)
  reads_so end stays all = record {
    these = λ name d device free. elim (all name) [
      | inl same ↦ (let e = is.counts.reads name in omega (arith, e, same))
      | inr so ↦ (let e = is.counts.reads name in let most = so.1 d device in omega (arith, e, most))
    ];
    others = λ name away. elim (all name) [
      | inl same ↦ same ∙ sym (is.counts.reads name)
      | inr so ↦ absurd (away so.0)
    ];
    writes = λ name. stays_writes (seen_at start name) (seen_at end name) (stays name) ∙ sym (is.counts.writes name);
  }
