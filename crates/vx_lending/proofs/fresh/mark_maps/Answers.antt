-- The maps of the mask are marked one after the other.
use Rattle.std.proofs.Common.{arith, ◌≡◌, ◌∙◌, ◌+◌, ◌||◌, ℕ, Bool, Err, refl, sym, ap, subst, false}
use Rattle.std.specs.Prelude.{nat_lt, ◌&&◌}
use Rattle.vx_mask.specs.Mask.{has}
use Rattle.vx_maps.specs.Cutness.{store_cut}
use Rattle.vx_maps.specs.Onward.{store_kept, store_kept_on}
use Rattle.vx_maps.specs.Stores.{store_seen}
use Rattle.vx_maps.specs.Wholes.{store_faults}
use Rattle.vx_maps.proofs.Growth.{faults_grow}
use Rattle.vx_maps.proofs.Heads.{risen_after}
use Rattle.vx_lending.specs.Logs.{AreShown}
use Rattle.vx_lending.specs.Marking.{one_map}
use Rattle.vx_lending.proofs.Marked.{log_kept, log_then, none_so_far, one_more, shown_as}
use Rattle.vx_lending.proofs.fresh.mark_maps.Goals as goal

pub mark_map-requires-clause-all : goal.mark_map-requires-clause-all
mark_map-requires-clause-all g c region known = c.requires.all region (sym (ap (λ (f : ℕ → Bool). f region) c.loop-map.invariant.kept.has_region) ∙ known)

pub loop-map-init : goal.loop-map-init
loop-map-init g c = record {
  kept = log_kept _;
  base = refl;
  claims = λ region k known. c.requires.none region k ∙ none_so_far c.args.marked k;
  shown = λ shown. shown_as (λ k. false) (λ k. nat_lt k 0 && has c.args.marked k) _ _ (none_so_far c.args.marked) shown;
  goes = store_kept _;
}

pub loop-map-preserved : goal.loop-map-preserved
loop-map-preserved g c =
    let inv = c.loop-map.invariant in
    let m = c.in_default.ensures.marked in
    let mask = c.args.marked in
    let map = c.loop-map.map in
    let same : (store_seen g.P.LocalPiece.seen c.loop-map.store).has_region ≡ (store_seen g.P.LocalPiece.seen c.args.store.now).has_region = inv.kept.has_region in
    record {
      kept = log_then _ _ _ inv.kept m.kept;
      base = m.base ∙ inv.base;
      claims = λ region k known. m.claims region k (ap (λ (f : ℕ → Bool). f region) same ∙ known) ∙ ap (λ (b : Bool). b || one_map mask map k) (inv.claims region k known) ∙ one_more mask k map;
      shown = λ shown.
          shown_as (λ k. (nat_lt k map && has mask k) || one_map mask map k) (λ k. nat_lt k (map + 1) && has mask k) (store_seen g.P.LocalPiece.seen c.args.store.now).has_region (store_seen g.P.LocalPiece.seen c.mark_map.new.store).told (λ k. one_more mask k map)
          (subst (λ (known : ℕ → Bool). AreShown (λ k. (nat_lt k map && has mask k) || one_map mask map k) known (store_seen g.P.LocalPiece.seen c.mark_map.new.store).told) same
          (m.shown (λ k. nat_lt k map && has mask k) (subst (λ (known : ℕ → Bool). AreShown (λ k. nat_lt k map && has mask k) known (store_seen g.P.LocalPiece.seen c.loop-map.store).told) (sym same) (inv.shown shown))));
      goes = store_kept_on _ _ _ inv.goes c.mark_map.ensures.goes;
    }

pub returns-in-Err-clause-goes : goal.returns-in-Err-clause-goes
returns-in-Err-clause-goes g c = store_kept_on _ _ _ c.loop-map.invariant.goes c.mark_map.ensures.goes

pub returns-in-Err-clause-cause : goal.returns-in-Err-clause-cause
returns-in-Err-clause-cause g c =
    risen_after (store_faults g.P.LocalPiece.seen c.args.store.now) (store_faults g.P.LocalPiece.seen c.loop-map.store) (store_faults g.P.LocalPiece.seen c.mark_map.new.store) (store_cut g.P.LocalPiece.seen c.mark_map.new.store) (Err c.in-Err.fault)
    (faults_grow c.args.store.now c.loop-map.store c.loop-map.invariant.goes) c.in-Err.ensures.cause

pub returns-clause-marked : goal.returns-clause-marked
returns-clause-marked g c =
    let inv = c.loop-map.invariant in
    let t = c.loop-map-test.false in
    let e : c.loop-map.map ≡ 32 = omega (arith, t) in
    record {
      kept = inv.kept;
      base = inv.base;
      claims = λ region k known. inv.claims region k known ∙ ap (λ n. nat_lt k n && has c.args.marked k) e;
      shown = λ shown. shown_as (λ k. nat_lt k c.loop-map.map && has c.args.marked k) (λ k. nat_lt k 32 && has c.args.marked k) _ _ (λ k. ap (λ n. nat_lt k n && has c.args.marked k) e) (inv.shown shown);
      goes = inv.goes;
    }
