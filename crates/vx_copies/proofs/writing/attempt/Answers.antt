use Rattle.std.proofs.Common.{◌≡◌, ◌∙◌, ◌<◌, map, take, sym, subst, arith}
use Rattle.vx_copies.specs.Lists.{AllOf}
use Rattle.vx_copies.specs.Disks.{disk_seen, CommitGoes, good_count, good_mask}
use Rattle.vx_copies.specs.Chain.{IsGoodMember}
use Rattle.vx_copies.specs.Commit.{AttemptEnds}
use Rattle.vx_copies.specs.Written.{IsMaskOf, CarriesIfGood}
use Rattle.vx_copies.specs.Pass.{HalvesEnd, TogglesEnd}
use Rattle.vx_copies.specs.declared.disk.Pass.TheVariants.{Done}
use Rattle.vx_copies.proofs.StepLaws.{each_map, all_trans, each_first, stays_all, stamps_all, slots_stay}
use Rattle.vx_copies.proofs.Chains.{sound_stays, sound_stamps, sound_turned, sound_later, still_named, stays_was}
use Rattle.vx_copies.proofs.ToggleOrder.{all_stay, all_attempted, order_on}
use Rattle.vx_copies.proofs.Leaders.{members_go, led_stays, led_stamps}
use Rattle.vx_copies.proofs.Turns.{tells_if_good, all_tell, front_tells, first_done}
use Rattle.vx_copies.proofs.GoodCounts.{same_count, count_first}
use Rattle.vx_copies.proofs.Masks.{good_named}
use Rattle.vx_copies.proofs.Trials.{halves_tried, toggles_tried, same_mask}
use Rattle.vx_copies.proofs.Records.{Fades, goes_fade, mask_of, all_half_touch, all_touch, all_once, all_carry}
use Rattle.vx_copies.proofs.writing.attempt.Goals as goal

pub returns-in-Done-clause-goes : goal.returns-in-Done-clause-goes
returns-in-Done-clause-goes g c = all_trans c.args.sequence c.args.sequence c.args.text.now _ _ _ (stays_all c.args.sequence c.args.sequence c.args.text.now _ _ c.put_halves.ensures.stays) (stamps_all c.args.sequence c.good_slots-mask.result c.args.text.now _ _ c.put_toggles.ensures.stamps)

pub returns-in-Done-clause-sound : goal.returns-in-Done-clause-sound
returns-in-Done-clause-sound g c = λ group missing others last carriers lt some sound.
    let ends : HalvesEnd Done c.args.text.now (map (disk_seen g.P.Piece.seen) c.args.disks.now) (map (disk_seen g.P.Piece.seen) c.put_halves.new.disks) = rw c.in-Done.is at c.put_halves.ensures.ends in
    let mid = sound_stays group missing others last carriers _ _ c.put_halves.ensures.stays sound in
    let same : good_count (take carriers (map (disk_seen g.P.Piece.seen) c.put_halves.new.disks)) ≡ good_count (take carriers (map (disk_seen g.P.Piece.seen) c.args.disks.now)) = same_count _ _ (each_first _ carriers _ _ ends.2) in
    let names = still_named c.good_slots-mask.result _ _ (stays_was _ _ c.put_halves.ensures.stays) (good_named c.good_slots-mask.result _ c.good_slots-mask.ensures.names) in
    let first = c.put_toggles.ensures.first (all_tell _ (tells_if_good group _ mid.members)) in
    sound_stamps group missing others last c.args.sequence c.good_slots-mask.result c.args.text.now lt carriers _ _ c.put_toggles.ensures.stamps names mid (omega (arith, same, some)) first

pub returns-in-Done-clause-all : goal.returns-in-Done-clause-all
returns-in-Done-clause-all g c = λ group missing others last carriers lt some sound done.
    let ends : HalvesEnd Done c.args.text.now (map (disk_seen g.P.Piece.seen) c.args.disks.now) (map (disk_seen g.P.Piece.seen) c.put_halves.new.disks) = rw c.in-Done.is at c.put_halves.ensures.ends in
    let mid = sound_stays group missing others last carriers _ _ c.put_halves.ensures.stays sound in
    let same : good_count (take carriers (map (disk_seen g.P.Piece.seen) c.put_halves.new.disks)) ≡ good_count (take carriers (map (disk_seen g.P.Piece.seen) c.args.disks.now)) = same_count _ _ (each_first _ carriers _ _ ends.2) in
    let names = still_named c.good_slots-mask.result _ _ (stays_was _ _ c.put_halves.ensures.stays) (good_named c.good_slots-mask.result _ c.good_slots-mask.ensures.names) in
    let whole : TogglesEnd Done c.args.sequence c.good_slots-mask.result c.args.text.now (map (disk_seen g.P.Piece.seen) c.put_halves.new.disks) (map (disk_seen g.P.Piece.seen) c.put_toggles.new.disks) = rw done at c.put_toggles.ensures.ends in
    sound_turned group missing others last c.args.sequence c.good_slots-mask.result c.args.text.now lt carriers _ _ c.put_toggles.ensures.stamps names mid _ (omega (arith, same, some))
    (first_done c.args.sequence c.good_slots-mask.result c.args.text.now _ _ c.put_toggles.ensures.stamps whole.2 (tells_if_good group _ mid.members) whole.1 (omega (arith, same, some, count_first carriers (map (disk_seen g.P.Piece.seen) c.put_halves.new.disks))))

pub returns-in-Done-clause-ends : goal.returns-in-Done-clause-ends
returns-in-Done-clause-ends g c =
    let ends : HalvesEnd Done c.args.text.now (map (disk_seen g.P.Piece.seen) c.args.disks.now) (map (disk_seen g.P.Piece.seen) c.put_halves.new.disks) = rw c.in-Done.is at c.put_halves.ensures.ends in
    toggles_tried c.put_toggles.result c.args.sequence c.good_slots-mask.result c.args.text.now _ _ _ ends.2
    (slots_stay c.args.sequence c.args.sequence c.args.text.now _ _ (all_trans c.args.sequence c.args.sequence c.args.text.now _ _ _ (stays_all c.args.sequence c.args.sequence c.args.text.now _ _ c.put_halves.ensures.stays) (stamps_all c.args.sequence c.good_slots-mask.result c.args.text.now _ _ c.put_toggles.ensures.stamps)))
    c.good_slots-mask.ensures.names c.good_slots-mask.ensures.just c.put_toggles.ensures.ends

pub returns-in_default : goal.returns-in_default
returns-in_default g c = record {
  size = c.requires.size;
  goes = stays_all c.args.sequence c.args.sequence c.args.text.now _ _ c.put_halves.ensures.stays;
  sound = λ group missing others last carriers lt some sound. sound_later group missing others last c.args.sequence carriers _ (omega (arith, lt)) (sound_stays group missing others last carriers _ _ c.put_halves.ensures.stays sound);
  all = λ group missing others last carriers lt some sound done. absurd (c.in_default.not-Done done);
  order = λ group before last lt ordered. order_on group c.args.sequence c.good_slots-mask.result c.args.text.now before last lt _ _ (all_stay group c.args.sequence c.good_slots-mask.result c.args.text.now _ _ c.put_halves.ensures.stays) (good_named c.good_slots-mask.result _ c.good_slots-mask.ensures.names) ordered;
  lead = λ group before carriers lt some members led. led_stays group before carriers _ _ c.put_halves.ensures.stays led;
  touches = all_half_touch c.args.sequence c.args.text.now _ _ _ c.put_halves.ensures.puts;
  done = λ is. absurd (c.in_default.not-Done is);
  ends = halves_tried c.put_halves.result c.args.sequence c.args.text.now _ _ c.in_default.not-Done c.put_halves.ensures.ends;
}

pub returns-in-Done-clause-touches : goal.returns-in-Done-clause-touches
returns-in-Done-clause-touches g c =
    let halves = c.put_halves.ensures.done c.in-Done.is in
    let goes = each_map (CommitGoes c.args.sequence c.args.sequence c.args.text.now) Fades (goes_fade c.args.sequence c.args.sequence c.args.text.now) _ _ (all_trans c.args.sequence c.args.sequence c.args.text.now _ _ _ (stays_all c.args.sequence c.args.sequence c.args.text.now _ _ c.put_halves.ensures.stays) (stamps_all c.args.sequence c.good_slots-mask.result c.args.text.now _ _ c.put_toggles.ensures.stamps)) in
    let mask : IsMaskOf (map (disk_seen g.P.Piece.seen) c.args.disks.now) (map (disk_seen g.P.Piece.seen) c.put_toggles.new.disks) c.good_slots-mask.result = mask_of c.good_slots-mask.result _ _ goes c.good_slots-mask.ensures.names (good_named c.good_slots-mask.result _ c.good_slots-mask.ensures.names) in
    all_touch c.args.sequence c.args.text.now (IsMaskOf (map (disk_seen g.P.Piece.seen) c.args.disks.now) (map (disk_seen g.P.Piece.seen) c.put_toggles.new.disks)) c.good_slots-mask.result mask c.requires.padded.fits _ _ _ halves c.put_toggles.ensures.puts

pub returns-in-Done-clause-done : goal.returns-in-Done-clause-done
returns-in-Done-clause-done g c = λ done.
    let halves = c.put_halves.ensures.done c.in-Done.is in
    let goes = each_map (CommitGoes c.args.sequence c.args.sequence c.args.text.now) Fades (goes_fade c.args.sequence c.args.sequence c.args.text.now) _ _ (all_trans c.args.sequence c.args.sequence c.args.text.now _ _ _ (stays_all c.args.sequence c.args.sequence c.args.text.now _ _ c.put_halves.ensures.stays) (stamps_all c.args.sequence c.good_slots-mask.result c.args.text.now _ _ c.put_toggles.ensures.stamps)) in
    let mask : IsMaskOf (map (disk_seen g.P.Piece.seen) c.args.disks.now) (map (disk_seen g.P.Piece.seen) c.put_toggles.new.disks) c.good_slots-mask.result = mask_of c.good_slots-mask.result _ _ goes c.good_slots-mask.ensures.names (good_named c.good_slots-mask.result _ c.good_slots-mask.ensures.names) in
    let toggles = c.put_toggles.ensures.done done in
    let ends : AttemptEnds Done c.args.sequence c.args.text.now (map (disk_seen g.P.Piece.seen) c.args.disks.now) (map (disk_seen g.P.Piece.seen) c.put_toggles.new.disks) = rw done at (returns-in-Done-clause-ends g c) in
    let just : c.good_slots-mask.result ≡ good_mask (map (disk_seen g.P.Piece.seen) c.put_toggles.new.disks) = c.good_slots-mask.ensures.just ∙ sym (same_mask _ _ (each_map Fades (λ a b. b.slot ≡ a.slot) (λ a b is. is.slot) _ _ goes) ends.2) in (
      all_once c.args.sequence c.args.text.now (IsMaskOf (map (disk_seen g.P.Piece.seen) c.args.disks.now) (map (disk_seen g.P.Piece.seen) c.put_toggles.new.disks)) c.good_slots-mask.result mask c.requires.padded.fits _ _ _ halves toggles,
      subst (λ m. AllOf (CarriesIfGood c.args.sequence m c.args.text.now) (map (disk_seen g.P.Piece.seen) c.put_toggles.new.disks)) just (all_carry c.args.sequence c.args.text.now (IsMaskOf (map (disk_seen g.P.Piece.seen) c.args.disks.now) (map (disk_seen g.P.Piece.seen) c.put_toggles.new.disks)) c.good_slots-mask.result mask c.requires.padded.fits _ _ _ halves toggles),
    )

pub returns-in-Done-clause-order : goal.returns-in-Done-clause-order
returns-in-Done-clause-order g c = λ group before last lt ordered.
    order_on group c.args.sequence c.good_slots-mask.result c.args.text.now before last lt _ _
    (all_attempted group c.args.sequence c.good_slots-mask.result c.args.text.now _ _ _ c.put_halves.ensures.stays c.put_toggles.ensures.stamps)
    (good_named c.good_slots-mask.result _ c.good_slots-mask.ensures.names) ordered

pub returns-in-Done-clause-lead : goal.returns-in-Done-clause-lead
returns-in-Done-clause-lead g c = λ group before carriers lt some members led.
    let ends : HalvesEnd Done c.args.text.now (map (disk_seen g.P.Piece.seen) c.args.disks.now) (map (disk_seen g.P.Piece.seen) c.put_halves.new.disks) = rw c.in-Done.is at c.put_halves.ensures.ends in
    let same : good_count (take carriers (map (disk_seen g.P.Piece.seen) c.put_halves.new.disks)) ≡ good_count (take carriers (map (disk_seen g.P.Piece.seen) c.args.disks.now)) = same_count _ _ (each_first _ carriers _ _ ends.2) in
    let still : 0 < good_count (take carriers (map (disk_seen g.P.Piece.seen) c.put_halves.new.disks)) = omega (arith, same, some) in
    let mid : AllOf (IsGoodMember group) (take carriers (map (disk_seen g.P.Piece.seen) c.put_halves.new.disks)) =
    members_go group c.args.sequence c.args.sequence c.args.text.now _ _ (each_first _ carriers _ _ (stays_all c.args.sequence c.args.sequence c.args.text.now _ _ c.put_halves.ensures.stays)) members in
    led_stamps group before c.args.sequence c.good_slots-mask.result c.args.text.now lt carriers _ _ c.put_toggles.ensures.stamps
    (c.put_toggles.ensures.first (front_tells carriers _ still (tells_if_good group _ mid))) still mid
    (led_stays group before carriers _ _ c.put_halves.ensures.stays led)
