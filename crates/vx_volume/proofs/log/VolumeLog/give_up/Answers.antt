-- A log of maps gives up a copy as its store does.
use Rattle.std.proofs.Common.{sym, ◌∙◌, map}
use Rattle.vx_volume.proofs.Yieldings.{absent_two, maps_give, maps_part, maps_room, maps_two}
use Rattle.vx_volume.proofs.log.VolumeLog.give_up.Goals as goal

pub returns-in-Absent-clause-gives : goal.returns-in-Absent-clause-gives
returns-in-Absent-clause-gives g c = absurd (absent_two c.args.self.now (sym c.replace.ensures.value ∙ c.in-Absent.is) c.requires.two)

pub returns-in-Absent-clause-parts : goal.returns-in-Absent-clause-parts
returns-in-Absent-clause-parts g c = absurd (absent_two c.args.self.now (sym c.replace.ensures.value ∙ c.in-Absent.is) c.requires.two)

pub give_up-store-requires-clause-two : goal.give_up-store-requires-clause-two
give_up-store-requires-clause-two g c = maps_two c.args.self.now c.in-Maps.store (sym c.replace.ensures.value ∙ c.in-Maps.is) c.requires.two

pub give_up-store-requires-clause-room : goal.give_up-store-requires-clause-room
give_up-store-requires-clause-room g c = maps_room c.args.copy c.args.self.now c.in-Maps.store c.args.room (sym c.replace.ensures.value ∙ c.in-Maps.is) c.requires.room

pub returns-in-Maps-clause-gives : goal.returns-in-Maps-clause-gives
returns-in-Maps-clause-gives g c = maps_give c.args.copy c.args.self.now c.in-Maps.store c.give_up-store.result.0 (sym c.replace.ensures.value ∙ c.in-Maps.is) c.give_up-store.ensures.gives

pub returns-in-Maps-clause-parts : goal.returns-in-Maps-clause-parts
returns-in-Maps-clause-parts g c =
    maps_part c.args.copy c.args.self.now c.in-Maps.store c.give_up-store.result.0 (sym c.replace.ensures.value ∙ c.in-Maps.is) (map g.P.LocalPiece.seen c.give_up-store.result.1.items) c.give_up-store.ensures.shape c.give_up-store.ensures.gone
    c.give_up-store.ensures.left
