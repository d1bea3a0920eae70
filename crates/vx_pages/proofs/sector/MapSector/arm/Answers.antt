use Rattle.std.proofs.Common.{subst, sym, Option}
use Rattle.vx_pages.specs.Pieces.{sector_of}
use Rattle.vx_pages.specs.Sector.{IsFormed}
use Rattle.vx_pages.proofs.Settlement.{armed_one, armed_pair}
use Rattle.vx_pages.proofs.sector.MapSector.arm.Goals as goal

pub invariant_of-self : goal.invariant_of-self
invariant_of-self g c =
    record {
      formed =
          armed_pair c.args.stop _ _ _ _ c.args.self.now.sure.items c.args.self.now.loose.items c.arm.ensures c.arm-in-Some.ensures
          (subst (λ (o : Option g.row.P.Denot). IsFormed (sector_of g.P.LocalPiece.seen c.args.self.now.first o c.args.self.now.sure.items c.args.self.now.loose.items)) c.in-Some.is c.args.self.now.formed);
    }

pub invariant_of-self-in_default : goal.invariant_of-self-in_default
invariant_of-self-in_default g c =
    record {
      formed =
          subst (λ (o : Option g.row.P.Denot). IsFormed (sector_of g.P.LocalPiece.seen c.arm.new.self o c.args.self.now.sure.items c.args.self.now.loose.items)) (sym c.in_default.is)
          (armed_one c.args.stop _ _ c.args.self.now.sure.items c.args.self.now.loose.items c.arm.ensures
          (subst (λ (o : Option g.row.P.Denot). IsFormed (sector_of g.P.LocalPiece.seen c.args.self.now.first o c.args.self.now.sure.items c.args.self.now.loose.items)) c.in_default.is c.args.self.now.formed));
    }
