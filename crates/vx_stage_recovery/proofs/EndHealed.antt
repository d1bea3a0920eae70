-- A volume that was opened and healed, and whose end is to be recorded: until then it is held among those that could not be put back, where it means
-- nothing in the world.
use Rattle.std.proofs.Common.{◌≡◌, ◌∙◌, List, [], ◌∷◌, ◌++◌, map, Some, None, Result, Ok, refl, sym, ap, subst, append_assoc}
use Rattle.std.specs.Prelude.{is_some}
use Rattle.vx_pages.specs.declared.local_piece.LocalPiece.{Ghosts}
use Rattle.vx_base.specs.Named.{Word}
use Rattle.vx_piece.specs.Seen.{Seen}
use Rattle.vx_carve.specs.Together.{SameSectors}
use Rattle.vx_config_parts.specs.declared.vol.Vol.{Vol}
use Rattle.vx_objects.specs.declared.config.Config.{Config}
use Rattle.vx_image.specs.UsedPlexes.{IsVolOf}
use Rattle.vx_moments.specs.Moment.{AreLater, Moment}
use Rattle.vx_moments.specs.World.{Group}
use Rattle.vx_volume.specs.Volume.{IsVolume, volume_seen}
use Rattle.vx_lending.specs.Left.{held_pieces}
use Rattle.vx_lending.specs.Public.{lent_pieces, remaining_pieces, still_pieces}
use Rattle.vx_lending.specs.declared.public.Public.{Public}
use Rattle.vx_lending.specs.declared.public.Running.{Running}
use Rattle.vx_group_recover.specs.declared.healing.Healed.{Healed}
use Rattle.vx_group_start.specs.Laying.{AreStuckVolumes, public_pieces}
use Rattle.vx_group_volumes.specs.Laws.{GoesOn}
use Rattle.std.specs.List.{flat_map}
use Rattle.vx_recovery.specs.Healing.{IsHealed}
use Rattle.vx_recovery.specs.Recovering.{IsOf}
use Rattle.vx_recovery.specs.Steps.{HasHealed}
use Rattle.vx_stages.specs.Starting.{refusal_at_once}
use Rattle.vx_stages.specs.Tests.{volume_in}
use Rattle.vx_house.specs.Scene.{FaultsGoOn, Shelved}
use Rattle.vx_house.specs.View.{IsGroupKept, IsMoment, Keeps, at, scene}
use Rattle.vx_house.specs.declared.house.House.{House}
use Rattle.vx_house.specs.declared.house.Imported.{Imported}
use Rattle.vx_house.specs.declared.stop.Stop.{Stop}
use Rattle.vx_state_edits.specs.Edits.{recovered_edits}
use Rattle.vx_stage_changes.specs.Planning.{IsPlanned}
use Rattle.vx_stage_volumes.proofs.Prepared.{IsOpenable}
use Rattle.vx_stage_recovery.proofs.EndPrepared.{HaveEndLaws, recovered_openable}
use Rattle.vx_stage_volumes.proofs.HeldStart.{world_of}
use Rattle.vx_stage_volumes.proofs.Named.{found_of}
use Rattle.vx_stage_volumes.proofs.TouchedBy.{one_held}
use Rattle.vx_stage_recovery.specs.Ending.{EndsOut}
use Rattle.vx_stage_recovery.specs.Healing.{IsHealedIn, IsPutBack}
use Rattle.vx_stage_recovery.proofs.EndSteps.{of_begun}
use Rattle.vx_stage_recovery.proofs.HealBytes.{goes, is_healed}
use Rattle.vx_stage_recovery.proofs.HealHouse.{all_end, at3, faults3, g3, h3, keeps3, kept3, later2, n}
use Rattle.vx_stage_recovery.proofs.HealLaws.{HaveHealLaws, HavePieceLaws}

some_group : (a b : Group) → Some a ≡ Some b → a ≡ b
some_group a b e = cc

-- The volume is held behind those that could not be put back.
pub record IsStuckIn {P : Type 0} {ghosts : Ghosts P} (opened : Public P ghosts) (after : Running P ghosts) (public : Public P ghosts) : Type 0 where
  pub pool : public.pool ≡ opened.pool
  pub left : public.left ≡ opened.left
  pub entries : public.running.entries ≡ opened.running.entries
  pub stuck : public.stuck.items ≡ opened.stuck.items ++ after ∷ []

-- so it is put back
module _ {P : Type 0} {ghosts : Ghosts P} (see : P → Seen) (opened : Imported P ghosts) (after : Running P ghosts) (public : Public P ghosts) (stuck : IsStuckIn opened.public after public) where
  same_still : still_pieces see public ≡ still_pieces see opened.public
  same_still =
      ap (λ p. map see p.items.items ++ flat_map (remaining_pieces see) public.left.items) stuck.pool ∙ ap (λ l. map see opened.public.pool.items.items ++ flat_map (remaining_pieces see) l.items) stuck.left

  regrouped : (a b c : List Seen) → (a ++ b) ++ c ≡ a ++ (b ++ c)
  regrouped a b c = simp append_assoc

  pub stuck_back : AreStuckVolumes see opened.public.stuck.items → IsVolume (volume_seen see after.volume) → IsPutBack see after opened (record opened { public = public })
  stuck_back were whole = record {
    same = refl;
    entries = stuck.entries;
    stuck = subst (AreStuckVolumes see) (sym stuck.stuck) (all_end (λ (r : Running P ghosts). IsVolume (volume_seen see r.volume)) opened.public.stuck.items after were whole);
    together =
        subst (λ ps. SameSectors ps (public_pieces see public)) (regrouped (held_pieces see after.volume) (still_pieces see opened.public) (lent_pieces see opened.public))
        (subst (λ ps. SameSectors ((held_pieces see after.volume ++ ps) ++ lent_pieces see opened.public) (public_pieces see public)) same_still (one_held see opened public stuck.entries after stuck.stuck));
  }

module _ {P : Type 0} {ghosts : Ghosts P} (alike : (p q : P) → is_some (ghosts.seen p).told ≡ is_some (ghosts.seen q).told) (laws : HaveHealLaws ghosts) (pieces : HavePieceLaws ghosts) (name : Word) (shelf : Shelved) (h : House P ghosts) (keeps : Keeps ghosts.seen (at shelf h))
    {g g' : Imported P ghosts} (has : h.group ≡ Some g) {done : Healed} {result : Result (Unit {0}) Stop} (e : EndsOut ghosts.seen name done result g g') (public : Public P ghosts) (stuck : IsStuckIn e.opened.public e.ends.after public) where
  abbrev pub see : P → Seen
  see = ghosts.seen

  abbrev pub v : Vol
  v = e.volume

  abbrev pub mid : Imported P ghosts
  mid = e.opens.mid

  abbrev pub gm : Group
  gm = world_of see mid

  pub of_mid : IsVolOf mid.config v
  of_mid = subst (λ (c : Config). IsVolOf c v) (sym e.opens.ready.parts.config) (found_of g.config name v e.begun.found)

  pub same_world : gm ≡ world_of see g
  same_world = some_group gm (world_of see g) e.opens.ready.parts.group

  pub were_stuck : AreStuckVolumes see e.opened.public.stuck.items
  were_stuck = subst (λ s. AreStuckVolumes see s.items) (sym e.opens.opens.same.stuck) e.opens.ready.parts.kept.whole.stuck

  abbrev pub healed : IsHealedIn see e.running (Ok done) e.opened (record e.opened { public = public })
  healed = record { after = e.ends.after; result = Ok done; heals = e.ends.heals; back = stuck_back see e.opened e.ends.after public stuck were_stuck e.ends.heals.whole; told_is = refl }

  abbrev pub on : GoesOn see e.running.volume e.ends.after.volume
  on = goes alike laws pieces shelf h keeps has e.opens.ready.parts e.opens.ready.ready.room of_mid e.begun.state e.opens.opens healed

  -- the group with it, and the house
  abbrev pub gv : Imported P ghosts
  gv = g3 alike shelf h keeps has e.opens.ready.parts e.opens.ready.ready.room of_mid e.begun.state e.opens.opens healed on

  abbrev pub hv : House P ghosts
  hv = h3 alike shelf h keeps has e.opens.ready.parts e.opens.ready.ready.room of_mid e.begun.state e.opens.opens healed on

  pub keeps_v : Keeps see (at shelf hv)
  keeps_v = keeps3 alike shelf h keeps has e.opens.ready.parts e.opens.ready.ready.room of_mid e.begun.state e.opens.opens healed on

  pub kept_v : IsGroupKept see gv
  kept_v = kept3 alike shelf h keeps has e.opens.ready.parts e.opens.ready.ready.room of_mid e.begun.state e.opens.opens healed on

  pub faults_v : FaultsGoOn (scene see (at shelf h)) (scene see (at shelf hv))
  faults_v = faults3 alike shelf h keeps has e.opens.ready.parts e.opens.ready.ready.room of_mid e.begun.state e.opens.opens healed on

  pub untested : refusal_at_once (world_of see g) v ≡ None
  untested = e.opens.ready.early

  module _ (m : Moment) (at_m : IsMoment see (at shelf h) m) where
    -- the moment in which it is healed
    abbrev pub then : Moment
    then = n alike shelf h keeps has e.opens.ready.parts e.opens.ready.ready.room of_mid e.begun.state e.opens.opens healed on m at_m

    pub at_v : IsMoment see (at shelf hv) then
    at_v = at3 alike shelf h keeps has e.opens.ready.parts e.opens.ready.ready.room of_mid e.begun.state e.opens.opens healed on m at_m

    pub later_v : AreLater m.counts then.counts
    later_v = later2 alike shelf h keeps has e.opens.ready.parts e.opens.ready.ready.room of_mid e.begun.state e.opens.opens healed on m at_m

    pub healed_so : IsHealed (world_of see g) v done.dirty done.copied done.marks m then
    healed_so =
        subst (λ (w : Group). IsHealed w v done.dirty done.copied done.marks m then) same_world
        (is_healed alike laws pieces shelf h keeps has e.opens.ready.parts e.opens.ready.ready.room of_mid e.begun.state e.opens.opens healed m at_m done refl)

    pub has_healed : HasHealed name done.dirty done.copied done.marks m then
    has_healed = of_begun see name shelf h g has (λ w u a b. (refusal_at_once w u ≡ None) × IsHealed w u done.dirty done.copied done.marks a b) v e.begun m then at_m (untested, healed_so)

    -- it is the volume of the name still
    pub is_then : IsOf name then.world gm v
    is_then = record { group = at_v.group_is; volume = ap (λ (c : Config). volume_in name c.volumes) e.opens.ready.parts.config ∙ e.begun.found }

-- what is planned of the volume that was opened may be recorded of the group as it was
module _ {P : Type 0} {ghosts : Ghosts P} {see : P → Seen} {name : Word} {done : Healed} {result : Result (Unit {0}) Stop} {g g' : Imported P ghosts} (edits : HaveEndLaws) (e : EndsOut see name done result g g') where
  same_config : e.opened.config ≡ g.config
  same_config = ap (λ (x : Imported P ghosts). x.config) e.opens.opens.same.group ∙ e.opens.ready.parts.config

  pub openable : IsOpenable see (recovered_edits g.config e.volume done.marks) name e.volume e.ends.recorded.next g e.opens.mid
  openable =
      recovered_openable edits done.marks e.begun e.opens.ready
      (subst (λ (c : Config). IsPlanned (recovered_edits c e.volume done.marks) c e.ends.recorded.next) same_config e.ends.recorded.planned)
