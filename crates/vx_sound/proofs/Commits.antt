-- What each commit of a command leaves.
use Rattle.std.proofs.Common.{◌≡◌, ◌⊎◌, ℕ, List, [], ◌∷◌, Option, Some, MatchOption, sym, ◌∙◌, ap, subst, inl, inr}
use Rattle.vx_base.specs.Named.{Word}
use Rattle.vx_base.proofs.NamedLemmas.{bytes_eq_same}
use Rattle.vx_copies.specs.Image.{Offer}
use Rattle.vx_config_parts.specs.declared.object.Object.{Object}
use Rattle.vx_objects.specs.declared.config.Config.{Config}
use Rattle.vx_objects.specs.declared.edit.Edit.TheVariants.{Make}
use Rattle.vx_objects.specs.Config.{objects_of}
use Rattle.vx_answers.specs.declared.answer.End.{End}
use Rattle.vx_answers.specs.declared.answer.End.TheVariants as ends
use Rattle.vx_moments.specs.World.{World, Volume, Group}
use Rattle.vx_moments.specs.Moment.{Moment, Counts}
use Rattle.vx_moments.specs.Commit.{Writing, IsCommitting, IsCommitted, IsStopped}
use Rattle.vx_stages.specs.Finding.{group_found, import_records}
use Rattle.vx_stages.specs.Ends.{IsChange}
use Rattle.vx_stages.specs.Stages.{IsImporting, IsJoining, edits_of, IsMaking}
use Rattle.vx_stages.specs.declared.stage.Change.{Change}
use Rattle.vx_stages.specs.declared.stage.Source.{Source}
use Rattle.vx_plans.proofs.Carriers.{FoundBy, found_by}
use Rattle.vx_sound.specs.Standing.{HoldsNoHeader, IsLeading, IsStanding}
use Rattle.vx_script_words.specs.declared.value.DiskAt.{DiskAt}
use Rattle.vx_moments.specs.Holding.{has_volume}
use Rattle.vx_group_edits.specs.OfVolume.{AreOf}
use Rattle.vx_moments.specs.Leaving.{lone}
use Rattle.vx_stages.specs.Records.{disk_record, next_slot, sectors_at}
use Rattle.vx_sound.proofs.Names.{IsApart, IsFree, change_apart, finds_free, import_apart, join_apart, make_apart, parts_apart}
use Rattle.vx_sound.proofs.Edits.{IsGrown, change_grown, make_grown, import_grown}
use Rattle.vx_sound.proofs.Ready.{IsReady}
use Rattle.vx_sound.proofs.ReadyToWrite.{IsLed, led, ready_alone}
use Rattle.vx_sound.proofs.Imports.{found_led}
use Rattle.vx_sound.proofs.CommitSteps.{sound_on}
use Rattle.vx_sound.proofs.Leaders.{leading_on}
use Rattle.vx_sound.proofs.Settlement.{IsSettled}

-- the group goes by this end
abbrev pub MustGo : End → Type 0
MustGo end = (end ≡ ends.GroupLost) ⊎ (end ≡ ends.Lost [])

-- the world is sound, or is so once its group has gone by this end
abbrev pub Ends : End → World → Type 0
Ends end w = IsStanding w ⊎ (IsSettled w × MustGo end)

volumes_on : (x : Writing) (last : ℕ) (old new : Moment) → IsCommitting x last old new → IsStanding old.world → (vol : Word) (v : Volume) → new.world.volumes vol ≡ Some v → HoldsNoHeader v
volumes_on x last old new c s vol v is = s.volumes vol v (sym (ap (λ (f : Word → Option Volume). f vol) c.volumes) ∙ is)

pub commit_done : (x : Writing) (old new : Moment) → IsStanding old.world → IsReady x old.world → IsApart x.config old.world → IsCommitted x old new → IsStanding new.world
commit_done x old new s r apart d = record {
  copies = sound_on x d.last old new d.committing r s.copies;
  group = subst (λ (g : Option Group). MatchOption g (Unit {0}) (IsLeading new.world)) (sym d.group) (leading_on x old new d r);
  volumes = volumes_on x d.last old new d.committing s;
  names = λ vol h. ap lone (ap (λ (f : Word → Option Volume). f vol) d.committing.volumes) ∙ apart vol (ap (λ (g : Option Group). has_volume g vol) (sym d.group) ∙ h);
}

pub commit_stopped : (x : Writing) (old : Moment) (end : End) (new : Moment) → IsStanding old.world → IsReady x old.world → IsStopped x old end new → Ends end new.world
commit_stopped x old end new s r d = inr (
  record {
    copies = sound_on x d.last old new d.committing r s.copies;
    volumes = volumes_on x d.last old new d.committing s;
  },
  elim d.ends [ inl lost ↦ inl lost.0 | inr cut ↦ inr cut.0 ],
)

-- ---- what is written

-- the imported group
pub imported_led : (w : World) (g : Group) → IsStanding w → w.group ≡ Some g → IsLed g.config.group w g
imported_led w g s here =
    led w g (subst (λ (o : Option Group). MatchOption o (Unit {0}) (IsLeading w)) here s.group) (s.copies g.config.group)

-- the names of its volumes
pub group_apart : (w : World) (g : Group) → IsStanding w → w.group ≡ Some g → IsApart g.config w
group_apart w g s here vol h = s.names vol (ap (λ (o : Option Group). has_volume o vol) here ∙ h)

pub change_unnamed : (change : Change) (w : World) (x : Writing) → IsStanding w → IsChange (edits_of change w.group) w x → IsApart x.config w
change_unnamed change w x s is = change_apart w change w.group x.group.config x.config is.edited (group_apart w x.group s is.group)

pub make_unnamed : (from : Source) (w : World) (x : Writing) → IsStanding w → IsMaking from w x → IsApart x.config w
make_unnamed from w x s is = make_apart w is.added x.group.config x.config is.change.edited is.fine (group_apart w x.group s is.change.group)

-- records of one volume are added
pub parts_unnamed : (name : Word) (added : List Object) (w : World) (x : Writing) → IsStanding w → AreOf name added → IsChange (Make added ∷ []) w x → IsApart x.config w
parts_unnamed name added w x s of is = parts_apart w name added x.group.config x.config of is.edited (group_apart w x.group s is.group)

pub join_unnamed : (p : DiskAt) (w : World) (x : Writing) → IsStanding w → IsJoining p w x → IsApart x.config w
join_unnamed p w x s is = join_apart w (disk_record p (next_slot x.group.config) (sectors_at w p.device)) x.group.config x.config is.edited (group_apart w x.group s is.group)

pub import_unnamed : (dg : Word) (w : World) (x : Writing) (old new : Counts) → IsImporting dg w x old new → IsApart x.config w
import_unnamed dg w x old new is =
    let F : Offer → Config → Type 0 = λ o config. (x.group ≡ group_found o is.found.counted config) × (objects_of x.config ≡ import_records config) in
    let all = found_by dg w is.found.unread is.found.counted (IsFree w F) (finds_free dg w is.found.unread is.found.counted F is.finds) in
    import_apart w all.config x.config all.holds.0.1 all.holds.1

pub change_ready : (change : Change) (w : World) (x : Writing) → IsStanding w → IsChange (edits_of change w.group) w x → IsReady x w
change_ready change w x s is = ready_alone x w (imported_led w x.group s is.group) (change_grown change w.group x.group.config x.config is.edited) is.joiners is.carriers

pub added_ready : (added : List Object) (w : World) (x : Writing) → IsStanding w → IsChange (Make added ∷ []) w x → IsReady x w
added_ready added w x s is = ready_alone x w (imported_led w x.group s is.group) (make_grown added x.group.config x.config is.edited) is.joiners is.carriers

pub make_ready : (from : Source) (w : World) (x : Writing) → IsStanding w → IsMaking from w x → IsReady x w
make_ready from w x s is = added_ready is.added w x s is.change

pub import_ready : (dg : Word) (w : World) (x : Writing) (old new : Counts) → IsStanding w → IsImporting dg w x old new → IsReady x w
import_ready dg w x old new s is = by (found_by dg w is.found.unread is.found.counted F is.finds)
  where
    F : Offer → Config → Type 0
    F o config = (x.group ≡ group_found o is.found.counted config) × (objects_of x.config ≡ import_records config)

    by : FoundBy dg is.found.unread is.found.counted F → IsReady x w
    by all =
        let same : dg ≡ x.group.config.group = sym (bytes_eq_same all.config.group dg all.named) ∙ sym (ap (λ (g : Group). g.config.group) all.holds.0) in
        let found : IsLed dg w (group_found all.offer is.found.counted all.config) = found_led dg w old new is.found F all (s.copies dg) in
        let own : IsLed x.group.config.group w x.group = subst (λ (g : Word). IsLed g w x.group) same (subst (λ (g : Group). IsLed dg w g) (sym all.holds.0) found) in
        let grown : IsGrown x.group.config x.config = import_grown x.group.config x.config (all.holds.1 ∙ sym (ap (λ (g : Group). import_records g.config) all.holds.0)) in
        ready_alone x w own grown is.joiners is.carriers
