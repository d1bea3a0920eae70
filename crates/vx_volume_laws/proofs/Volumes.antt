-- The bytes that a started volume of the world leaves stand for it.
use Rattle.std.proofs.Common.{ℕ, sym, subst}
use Rattle.vx_volume_laws.specs.Regions.{IsLifeOf}
use Rattle.vx_volume_laws.specs.Volumes.{EachVolumeIsLeft}
use Rattle.vx_volume_laws.proofs.Losses.{sound_left, stands_left, marked_left, within_left}

pub each_volume_is_left : EachVolumeIsLeft
each_volume_is_left image regions v runs left long size filled was =
    let lives : IsLifeOf image.length image.region v.life regions =
    subst (λ (n : ℕ). IsLifeOf n image.region v.life regions) (sym long) (subst (λ (n : ℕ). IsLifeOf v.length n v.life regions) (sym size) runs.life) in
    record {
      sound = sound_left image regions runs.kept left was;
      candidates = stands_left image regions runs.kept left filled v.life lives;
      sure = λ p one. marked_left image regions runs.kept left p.map (v.tracks p.name).sure (v.tracks p.name).possible (runs.tracks p one);
      possible = λ p one. within_left image regions left p.map (v.tracks p.name).possible (runs.tracks p one).possible;
      dirty = within_left image regions left 30 v.dirty runs.dirty;
    }
