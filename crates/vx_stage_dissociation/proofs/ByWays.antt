-- How a plex leaves its volume by a way that is known.
use Rattle.std.proofs.Common.{◌≡◌, ◌⊎◌, Bool, sym, subst, inl, inr}
use Rattle.vx_config_parts.specs.declared.plex.Plex.{Plex}
use Rattle.vx_config_parts.specs.declared.vol.Vol.{Vol}
use Rattle.vx_answers.specs.declared.answer.End.{End}
use Rattle.vx_answers.specs.declared.refusal.Refusal.TheVariants as refusal
use Rattle.vx_moments.specs.Commit.{IsCommitted, Writing}
use Rattle.vx_moments.specs.Moment.{AreLater, Moment}
use Rattle.vx_moments.specs.World.{Group}
use Rattle.vx_stages.specs.Ends.{IsChange, StopsBy, refused}
use Rattle.vx_stages.specs.Stopping.{runs_on_plexes}
use Rattle.vx_stages.specs.Tests.{is_data}
use Rattle.vx_stages.specs.Leaving.{Way, leaving_edits, way_of}
use Rattle.vx_stages.specs.Left.{CanLeave, GoesOnBy, IsReadied, LeavesVolume, MustStay, StaysSound, StopsUnreadied, VolumeStops}

-- it leaves the volume
pub record LeavesBy (way : Way) (remove : Bool) (g : Group) (v : Vol) (p : Plex) (old new : Moment) : Type 0 where
  pub mid : Moment
  pub readied : IsReadied way g v old mid
  pub spared : CanLeave way g v p old mid readied
  pub writing : Writing
  pub change : IsChange (leaving_edits remove p) mid.world writing
  pub sound : StaysSound old.world g v writing.config mid.world
  pub recorded : Moment
  pub committed : IsCommitted writing mid recorded
  pub rest : AreLater mid.counts recorded.counts
  pub goes : GoesOnBy way g v.name p recorded new

-- it cannot be spared
pub record StaysBy (way : Way) (g : Group) (v : Vol) (p : Plex) (old : Moment) (end : End) (new : Moment) : Type 0 where
  pub readied : IsReadied way g v old new
  pub stays : MustStay way g v p old new readied
  pub end_is : end ≡ refused (refusal.OnlyPlex p.name)

-- the commit is stopped
pub record StopsInBy (way : Way) (remove : Bool) (g : Group) (v : Vol) (p : Plex) (old : Moment) (end : End) (new : Moment) : Type 0 where
  pub mid : Moment
  pub readied : IsReadied way g v old mid
  pub rest : AreLater mid.counts new.counts
  pub stops : StopsBy (IsChange (leaving_edits remove p) mid.world) mid end new
  pub sound : StaysSound old.world g v stops.0.config mid.world

abbrev pub EndsBy : Way → (remove : Bool) → Group → Vol → Plex → Moment → End → Moment → Type 0
EndsBy way remove g v p old end new = StopsUnreadied way g v old end new ⊎ (StaysBy way g v p old end new ⊎ StopsInBy way remove g v p old end new)

module _ (way : Way) (remove : Bool) (g : Group) (v : Vol) (p : Plex) (old : Moment) (is : way_of (is_data p.kind) (runs_on_plexes old.world v.name) v ≡ way) where
  abbrev own : Way
  own = way_of (is_data p.kind) (runs_on_plexes old.world v.name) v

  pub leaves_so : (new : Moment) → LeavesBy way remove g v p old new → LeavesVolume remove g v p old new
  leaves_so new l =
      let x : LeavesBy own remove g v p old new = subst (λ (w : Way). LeavesBy w remove g v p old new) (sym is) l in
      record { mid = x.mid; readied = x.readied; spared = x.spared; writing = x.writing; change = x.change; sound = x.sound; recorded = x.recorded; committed = x.committed; rest = x.rest; goes = x.goes }

  pub stops_so : (end : End) (new : Moment) → EndsBy way remove g v p old end new → VolumeStops remove g v p old end new
  stops_so end new s = by (subst (λ (w : Way). EndsBy w remove g v p old end new) (sym is) s)
    where
      by : EndsBy own remove g v p old end new → VolumeStops remove g v p old end new
      by (inl unreadied) = inl unreadied
      by (inr (inl x)) = inr (inl (record { readied = x.readied; stays = x.stays; end_is = x.end_is }))
      by (inr (inr x)) = inr (inr (record { mid = x.mid; readied = x.readied; rest = x.rest; stops = x.stops; sound = x.sound }))
