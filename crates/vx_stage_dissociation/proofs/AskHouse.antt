-- A volume was opened out of the pieces of its group to ask its log, and put back. In between it is held among those that could not be put back. The
-- house keeps what it did, and each moment goes to one in which the copies of the log have come nearer to one another, and nothing else has changed.
use Rattle.std.proofs.Common.{◌≡◌, ◌∙◌, ℕ, suc, ◌<◌, ◌≤◌, Bool, true, List, [], ◌∷◌, ◌++◌, Some, refl, sym, ap, subst, arith, append_assoc}
use Rattle.std.specs.Prelude.{is_some}
use Rattle.std.specs.BTreeMap.{is_at}
use Rattle.std.specs.Map.{lookup}
use Rattle.std.specs.Cmp.Lexicographic.{slice_cmp}
use Rattle.std.specs.List.{flat_map}
use Rattle.std.specs.Ordering.{nat_cmp}
use Rattle.std.proofs.lemmas.List.{append-nil}
use Rattle.vx_pages.specs.declared.local_piece.LocalPiece.{Ghosts}
use Rattle.vx_base.specs.Named.{Word}
use Rattle.vx_mask.specs.Mask.{has as has_slot}
use Rattle.vx_piece.specs.Seen.{Seen}
use Rattle.vx_carve.specs.Together.{SameSectors}
use Rattle.vx_carve.proofs.Same.{same_trans}
use Rattle.vx_copies.specs.Disks.{DiskSeen}
use Rattle.vx_confdb.specs.Groups.{members}
use Rattle.vx_config_parts.specs.declared.vol.Vol.{Vol}
use Rattle.vx_fronts.specs.Rests.{rests_of}
use Rattle.vx_fronts.proofs.Behind.{turned}
use Rattle.vx_moments.specs.Leaving.{grouped}
use Rattle.vx_moments.specs.Moment.{Moment}
use Rattle.vx_moments.specs.World.{Group}
use Rattle.vx_lending.specs.Left.{held_pieces}
use Rattle.vx_lending.specs.Public.{running_pieces, still_pieces, stuck_pieces}
use Rattle.vx_lending.specs.declared.public.Public.{Public}
use Rattle.vx_lending.specs.declared.public.Running.{Running}
use Rattle.vx_group_start.specs.Laying.{AreRunningVolumes}
use Rattle.vx_house.specs.Holders.{group_holders}
use Rattle.vx_house.specs.Runs.{AllInPlace, AreRuns, IsAtRun}
use Rattle.vx_house.specs.Scene.{FaultsGoOn, Shelved}
use Rattle.vx_house.specs.View.{IsGroupKept, IsMoment, Keeps, at, scene}
use Rattle.vx_house.specs.declared.house.House.{House}
use Rattle.vx_house.specs.declared.house.Imported.{Imported}
use Rattle.vx_house.proofs.Laid.{holders_laid, parted_laid}
use Rattle.vx_house_calls.specs.Passes.{with_group}
use Rattle.vx_stage_volumes.specs.Opening.{OpensIn, good_of}
use Rattle.vx_stage_volumes.specs.Parting.{PartsGroup}
use Rattle.vx_stage_volumes.specs.Touching.{behind_of}
use Rattle.vx_stage_volumes.proofs.Begun.{length_end}
use Rattle.vx_stage_volumes.proofs.HeldOpen.{at1, faults1, g1, h1, k, kept1, keeps1, mid_at, mid_keeps, narrows1, slots1}
use Rattle.vx_stage_volumes.proofs.HeldStart.{IsHeldPublic, IsTouchedAt, world_of}
use Rattle.vx_stage_volumes.proofs.Inserted.{flat_last}
use Rattle.vx_stage_volumes.proofs.Narrowed.{HaveNarrowing}
use Rattle.vx_stage_volumes.proofs.Otherwise.{IsHeldOtherwise, otherwise_keeps, otherwise_moment, otherwise_scene, sized_by}
use Rattle.vx_stage_volumes.proofs.Slots.{IsAtSlot}
use Rattle.vx_stage_volumes.proofs.UnopenedHouse.{IsUnopenedAt}
use Rattle.vx_stage_dissociation.specs.Asking.{AsksIn}

module _ {P : Type 0} {ghosts : Ghosts P} (alike : (p q : P) → is_some (ghosts.seen p).told ≡ is_some (ghosts.seen q).told) (shelf : Shelved) (h : House P ghosts) (keeps : Keeps ghosts.seen (at shelf h))
    {g mid : Imported P ghosts} (has : h.group ≡ Some g) (parts : PartsGroup ghosts.seen g mid) (room : mid.public.stuck.len < mid.public.stuck.cap)
    {v : Vol} {map : ℕ} {needed : Bool} {new : Imported P ghosts} (asks : AsksIn ghosts.seen v map needed mid new) where
  abbrev pub see : P → Seen
  see = ghosts.seen

  abbrev pub running : Running P ghosts
  running = asks.running

  abbrev pub opened : Imported P ghosts
  opened = asks.opened

  abbrev pub opens : OpensIn ghosts.seen v mid asks.opened asks.running
  opens = asks.opens

  -- the group, as the world has it
  abbrev pub gm : Group
  gm = world_of ghosts.seen mid

  abbrev pub hk : House P ghosts
  hk = k alike shelf h keeps has parts

  pub keeps_mid : Keeps ghosts.seen (at shelf (k alike shelf h keeps has parts))
  keeps_mid = mid_keeps alike shelf h keeps has parts

  pub at_mid : (m : Moment) → IsMoment ghosts.seen (at shelf h) m → IsMoment ghosts.seen (at shelf (k alike shelf h keeps has parts)) m
  at_mid m is = mid_at alike shelf h keeps has parts m is

  -- ---- it is held among those that could not be put back

  -- it would have had a place there
  pub stuck_room : suc asks.opened.public.stuck.len ≤ asks.opened.public.stuck.cap
  stuck_room = let room' = subst (λ s. s.len < s.cap) (sym asks.opens.same.stuck) room in omega (arith, room')

  abbrev pub with_stuck : Public P ghosts
  with_stuck = record asks.opened.public {
    stuck = record asks.opened.public.stuck {
      len = suc asks.opened.public.stuck.len;
      items = asks.opened.public.stuck.items ++ asks.running ∷ [];
      ok = (ap suc asks.opened.public.stuck.ok.0 ∙ sym (length_end asks.opened.public.stuck.items asks.running), stuck_room);
    };
  }

  pub held1 : IsHeldPublic mid.public asks.opened.public asks.running with_stuck
  held1 = record { pool = refl; left = refl; entries = ap (λ r. r.entries) asks.opens.same.running; stuck = ap (λ s. s.items ++ asks.running ∷ []) asks.opens.same.stuck }

  abbrev pub g_held : Imported P ghosts
  g_held = g1 alike shelf h keeps has parts asks.opens held1

  abbrev pub h_held : House P ghosts
  h_held = h1 alike shelf h keeps has parts asks.opens held1

  pub keeps_held : Keeps ghosts.seen (at shelf h_held)
  keeps_held = keeps1 alike shelf h keeps has parts asks.opens held1

  pub kept_held : IsGroupKept ghosts.seen g_held
  kept_held = kept1 alike shelf h keeps has parts asks.opens held1

  faults_held : FaultsGoOn (scene ghosts.seen (at shelf h)) (scene ghosts.seen (at shelf h_held))
  faults_held = faults1 alike shelf h keeps has parts asks.opens held1

  -- the moment in which it is opened
  abbrev pub touched_at : (m : Moment) → IsMoment ghosts.seen (at shelf h) m → IsTouchedAt ghosts.seen shelf h_held (world_of ghosts.seen mid) v.name m
  touched_at m is = at1 alike shelf h keeps has parts asks.opens held1 m is

  -- a good slot has the number of its disk's device
  pub good_slots : (slot : ℕ) → has_slot (good_of ghosts.seen mid) slot ≡ true → IsAtSlot asks.opens.numbers (members ghosts.seen mid.base) (world_of ghosts.seen mid).members slot
  good_slots = slots1 alike shelf h keeps has parts asks.opens held1

  -- ---- its pieces are put back

  -- all others
  abbrev O : List Seen
  O = behind_of ghosts.seen asks.opened.public

  abbrev H : List Seen
  H = held_pieces ghosts.seen asks.running.volume

  regrouped : (s r q c : List Seen) → s ++ (r ++ (q ++ c)) ≡ (s ++ (r ++ q)) ++ c
  regrouped s r q c = simp append_assoc

  behind_is : behind_of ghosts.seen with_stuck ≡ O ++ H
  behind_is =
      ap (λ ps. still_pieces ghosts.seen asks.opened.public ++ (flat_map (running_pieces ghosts.seen) asks.opened.public.running.entries ++ ps)) (flat_last (stuck_pieces ghosts.seen) asks.opened.public.stuck.items asks.running)
      ∙ regrouped (still_pieces ghosts.seen asks.opened.public) (flat_map (running_pieces ghosts.seen) asks.opened.public.running.entries) (flat_map (stuck_pieces ghosts.seen) asks.opened.public.stuck.items) H

  swapped : SameSectors (O ++ H) (H ++ O)
  swapped = subst (λ ps. SameSectors ps (H ++ O)) (append-nil (O ++ H)) (subst (λ ps. SameSectors ((O ++ H) ++ []) (H ++ ps)) (append-nil O) (turned O H []))

  together : SameSectors (behind_of ghosts.seen with_stuck) (behind_of ghosts.seen new.public)
  together = subst (λ ps. SameSectors ps (behind_of ghosts.seen new.public)) (sym behind_is) (same_trans (O ++ H) (H ++ O) (behind_of ghosts.seen new.public) swapped asks.back.together)

  abbrev pub g_asked : Imported P ghosts
  g_asked = record g_held { public = new.public }

  abbrev pub h_asked : House P ghosts
  h_asked = with_group h_held g_asked

  same_devices : group_holders ghosts.seen (Some g_asked) ≡ group_holders ghosts.seen (Some g_held)
  same_devices = holders_laid ghosts.seen alike g_held g_asked refl kept_held.whole.parted together

  held_asked : IsHeldOtherwise ghosts.seen g_held g_asked
  held_asked = record { config = refl; base = refl; holders = same_devices }

  abbrev hs : List DiskSeen
  hs = members ghosts.seen mid.base

  entries_asked : new.public.running.entries ≡ asks.opened.public.running.entries
  entries_asked = ap (λ r. r.entries) asks.back.runs

  pub kept_asked : IsGroupKept ghosts.seen g_asked
  kept_asked = record {
    named = kept_held.named;
    text = kept_held.text;
    first = kept_held.first;
    carries = kept_held.carries;
    sized = sized_by (rests_of (behind_of ghosts.seen with_stuck) []) (rests_of (behind_of ghosts.seen new.public) []) hs same_devices kept_held.sized;
    slots = kept_held.slots;
    recorded = kept_held.recorded;
    whole = record {
      parted = parted_laid ghosts.seen alike g_held g_asked refl kept_held.whole.parted together;
      volumes = subst (AreRunningVolumes ghosts.seen) (sym entries_asked) kept_held.whole.volumes;
      stuck = asks.back.stuck;
    };
    placed = subst (AllInPlace ghosts.seen hs mid.config (good_of ghosts.seen mid)) (sym entries_asked) kept_held.placed;
  }

  pub keeps_asked : Keeps ghosts.seen (at shelf h_asked)
  keeps_asked = otherwise_keeps ghosts.seen shelf h_held g_held g_asked refl held_asked keeps_held kept_asked

  pub faults_asked : FaultsGoOn (scene ghosts.seen (at shelf h)) (scene ghosts.seen (at shelf h_asked))
  faults_asked = subst (λ s. FaultsGoOn (scene ghosts.seen (at shelf h)) s) (sym (otherwise_scene ghosts.seen shelf h_held g_held g_asked refl held_asked)) faults_held

  -- it is the group as it was left
  pub asked_is : g_asked ≡ new
  asked_is = sym (asks.back.same ∙ ap (λ (x : Imported P ghosts). (let y : Imported P ghosts = record x { public = new.public } in y)) asks.opens.same.group)

  -- ---- the moment

  module _ (laws : HaveNarrowing ghosts.seen) (m : Moment) (at_m : IsMoment ghosts.seen (at shelf h) m) where
    abbrev t : IsTouchedAt ghosts.seen shelf h_held (world_of ghosts.seen mid) v.name m
    t = touched_at m at_m

    runs : AreRuns ghosts.seen (Some g_asked) t.then.world.group t.then.world.volumes
    runs x =
        subst (λ r. IsAtRun ghosts.seen hs t.then.world.group x r (grouped (t.then.world.volumes x)))
        (ap (λ (es : List (Word × Running P ghosts)). lookup (is_at (slice_cmp nat_cmp x)) es) (sym entries_asked)) (t.is.runs_are x)

    pub is_asked_then : IsMoment ghosts.seen (at shelf h_asked) t.then
    is_asked_then = otherwise_moment ghosts.seen shelf h_held g_held g_asked refl held_asked t.then t.is t.then.world.volumes (λ name. refl) runs

    -- so it goes
    abbrev pub asked_at : IsUnopenedAt ghosts.seen shelf h_asked (world_of ghosts.seen mid) v m
    asked_at = record { then = t.then; is = is_asked_then; later = t.later; touched = t.touched; narrows = narrows1 alike shelf h keeps has parts asks.opens held1 laws m at_m }
