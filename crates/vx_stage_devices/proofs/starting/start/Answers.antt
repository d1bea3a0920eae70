use Rattle.std.proofs.Common.{◌∙◌, ◌∷◌, [], refl, sym, ap}
use Rattle.vx_stage_devices.proofs.BareVolumes.{popped}
use Rattle.vx_stage_devices.proofs.starting.start.Goals as goal

pub returns-in-Ok : goal.returns-in-Ok
returns-in-Ok g c =
    let last = popped c.args.house.now.hand.items c.pop.new.self.items c.in-Some.taken c.requires.taken c.in-Some.ensures.items c.requires.hand in
    record {
      taken = c.in-Some.taken;
      hand = c.requires.hand ∙ ap (λ t. t ∷ []) (sym last.0);
      empty = last.1;
      put_in = c.in-Ok.ensures.put_in;
      group = refl;
    }
