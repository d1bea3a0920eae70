-- What an import has read of the devices that were found, and of others.
use Rattle.std.proofs.Common.{◌≡◌, ◌∙◌, ◌≤◌, ◌+◌, ℕ, false, is_some, Option, Some, None, List, refl, sym, ap, subst, inr, arith}
use Rattle.std.specs.Prelude.{IfSome}
use Rattle.std.proofs.lemmas.Bool.{cond-true}
use Rattle.std.proofs.lemmas.Slice.Eq.{bytes_eq-Decides}
use Rattle.vx_pages.specs.declared.local_piece.LocalPiece.{Ghosts}
use Rattle.vx_base.specs.Blocks.{Contents}
use Rattle.vx_base.specs.Named.{Word}
use Rattle.vx_header.specs.Named.{Label, header_of}
use Rattle.vx_piece.specs.Seen.{Seen}
use Rattle.vx_copies.specs.Image.{names_group}
use Rattle.vx_copies.specs.Lists.{AllOf}
use Rattle.vx_import.specs.Looks.{Looked}
use Rattle.vx_moments.specs.World.{Device}
use Rattle.vx_moments.specs.Moment.{Moment}
use Rattle.vx_stages.specs.Finding.{import_sectors}
use Rattle.vx_stages.specs.Stages.{ImportReads}
use Rattle.vx_house.specs.Holders.{holders, held_as}
use Rattle.vx_house.specs.Reading.{Stays}
use Rattle.vx_house.specs.Scene.{Shelved, Scene, seen_at, count_in, reads_at, counts_of}
use Rattle.vx_house.specs.View.{IsMoment, at, scene}
use Rattle.vx_house.specs.declared.house.House.{House}
use Rattle.vx_house.proofs.AllLaws.{all_mapped, all_two, held_by_one}
use Rattle.vx_stage_import.specs.Finds.{holder_of, holders_of, beside, contents_in, candidate_of}
use Rattle.vx_stage_import.specs.Importing.{all_read, IsSince}
use Rattle.vx_stage_import.proofs.Counts.{IsThere, all_there, found_device, one_candidate}
use Rattle.vx_stage_import.proofs.Headers.{same_reads}
use Rattle.vx_stage_import.proofs.ReadAtMost.{IsReadSo, header_so, reads_so, not_held_here}

-- of a device of the group the toggle and its text are read too
sectors_of : (group : Word) (label : Label) (d : Device) → header_of (d.contents 0) ≡ Some label → label.group ≡ group → import_sectors group d ≡ all_read d.contents
sectors_of group label d header named = cond-true _ _ _ (ap (names_group group) header ∙ (bytes_eq-Decides label.group group).1 named)

module _ {P : Type 0} {ghosts : Ghosts P} (see : P → Seen) (group : Word) (names : List Word) (first now : Shelved) (h : House P ghosts) (fs : List Looked) (since : IsSince see all_read group names first now h fs) (m : Moment) (is : IsMoment see (at first h) m) where
  abbrev start : Scene
  start = scene see (at first h)

  abbrev then : Scene
  then = beside now (holders see h) fs

  abbrev IsSo : Word → ℕ → Type 0
  IsSo = IsReadSo see group first h since.keeps m is

  found_so : (f : Looked) → IsThere see group names first now h fs since m is f → IfSome f.seen.told (λ contents. f.seen.reads ≤ reads_at start f.device + all_read contents) → IsSo f.device (reads_at then f.device)
  found_so f there most =
      let world = found_device see group names first now h fs since m is f there in
      let counts = one_candidate see group names first now h fs since m is (λ n. false) f there refl in
      let reads : reads_at then f.device ≡ f.seen.reads = ap (count_in (λ (s : Seen). s.reads) 0) there.here in
      let all : import_sectors group (candidate_of f).device ≡ all_read world.contents = sectors_of group f.label (candidate_of f).device counts.header counts.group_is ∙ ap all_read (ap contents_in world.told) in
      let up : f.seen.reads ≤ reads_at start f.device + all_read world.contents = subst (λ (o : Option Contents). IfSome o (λ contents. f.seen.reads ≤ reads_at start f.device + all_read contents)) world.told most in
      inr (
        (ap is_some world.device, (not_held_here see group first h since.keeps m is f.device there.none, refl)),
        λ d device.
            let same : (candidate_of f).device ≡ d = (let e = world.device in cc) in
            let sectors : import_sectors group d ≡ all_read world.contents = ap (import_sectors group) (sym same) ∙ all in omega (arith, reads, up, sectors),
      )

  all_so : (name : Word) → IsSo name (reads_at then name)
  all_so name = by (held_as (holders_of fs) name) refl
    where
      finds : AllOf (λ f. IsSo f.device (reads_at then f.device)) fs
      finds = all_two (IsThere see group names first now h fs since m is) (λ f. IfSome f.seen.told (λ contents. f.seen.reads ≤ reads_at start f.device + all_read contents)) (λ f. IsSo f.device (reads_at then f.device)) found_so fs (all_there see group names first now h fs since m is) (since.counted is.told).found

      by : (o : Option Seen) → held_as (holders_of fs) name ≡ o → IsSo name (reads_at then name)
      by None none = header_so see group first h since.keeps m is names since.lists then name ((since.counted is.told).others name none)
      by (Some seen) held = held_by_one (λ o. IsSo o.name (reads_at then o.name)) (holders_of fs) name seen held (all_mapped (λ o. IsSo o.name (reads_at then o.name)) holder_of fs finds) (λ o named same so. subst (λ n. IsSo n (reads_at then n)) named so)

  -- what was read until the devices went back, or became disks
  pub import_reads : (end : Scene) → ((name : Word) → seen_at end name ≡ seen_at then name) → ImportReads group m.world m.counts (counts_of end)
  import_reads end same =
      reads_so see group first h since.keeps m is end
      (λ name. subst (Stays (seen_at start name)) (sym (same name)) (since.reads.seen is.told name))
      (λ name. subst (IsSo name) (sym (same_reads then end name (same name))) (all_so name))
