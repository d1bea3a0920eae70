-- The volumes of a group are laid down.
use Rattle.std.specs.Prelude.{◌++◌, List}
use Rattle.vx_base.specs.Named.{Word}
use Rattle.vx_piece.specs.Seen.{Seen}
use Rattle.vx_pages.specs.declared.local_piece.LocalPiece.{Ghosts}
use Rattle.vx_copies.specs.Lists.{AllOf}
use Rattle.vx_volume.specs.Volume.{IsVolume, volume_seen}
use Rattle.vx_lending.specs.declared.public.Public.{Public}
use Rattle.vx_lending.specs.declared.public.Running.{Running}
use Rattle.vx_lending.specs.Public.{lent_pieces, still_pieces}

-- each running volume, by its name, is a volume
abbrev pub AreRunningVolumes : {P : Type 0} {ghosts : Ghosts P} → (P → Seen) → List (Word × Running P ghosts) → Type 0
AreRunningVolumes {P = P} {ghosts = ghosts} see entries = AllOf (λ (e : Word × Running P ghosts). IsVolume (volume_seen see e.1.volume)) entries

-- each of those that could not be put back is a volume
abbrev pub AreStuckVolumes : {P : Type 0} {ghosts : Ghosts P} → (P → Seen) → List (Running P ghosts) → Type 0
AreStuckVolumes {P = P} {ghosts = ghosts} see rs = AllOf (λ (r : Running P ghosts). IsVolume (volume_seen see r.volume)) rs

-- all pieces of a group behind its fronts: those that lie still, and those that volumes have
abbrev pub public_pieces : {P : Type 0} {ghosts : Ghosts P} → (P → Seen) → Public P ghosts → List Seen
public_pieces see p = still_pieces see p ++ lent_pieces see p
