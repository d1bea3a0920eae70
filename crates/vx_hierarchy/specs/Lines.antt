-- The line of each row.
use Rattle.std.specs.Prelude.{ℕ, ◌++◌, ◌∷◌, [], List, codes, decimal}
use Rattle.vx_base.specs.Named.{Word}
use Rattle.vx_config_parts.specs.Words.{layout_word, plex_state_word, policy_word, vol_state_word}
use Rattle.vx_config_parts.specs.declared.plex.Plex.{Plex}
use Rattle.vx_config_parts.specs.declared.subdisk.Subdisk.{Subdisk}
use Rattle.vx_config_parts.specs.declared.vol.Vol.{Vol}
use Rattle.vx_hierarchy.specs.Kernel.{kernel_word}
use Rattle.vx_hierarchy.specs.declared.kernel.Kernel.{Kernel}
use Rattle.vx_hierarchy.specs.declared.row.Row.{Row}
use Rattle.vx_hierarchy.specs.declared.row.Row.TheVariants.{VolumeRow, PlexRow, SubdiskRow}

-- the word, and what ends it
abbrev pub ended : List ℕ → ℕ → List ℕ
ended word end = word ++ end ∷ []

-- a word of a line, and the blank behind it
abbrev pub word : List ℕ → List ℕ
word bytes = ended bytes 32

-- the last word of a line, and the newline behind it
abbrev pub last : List ℕ → List ℕ
last bytes = ended bytes 10

-- two numbers with a stroke between them, as the last word of a line
abbrev pub last_pair : ℕ → ℕ → List ℕ
last_pair a b = ended (decimal a) 47 ++ last (decimal b)

-- the kind of what a line shows, its name, and the name of what it is in
abbrev pub head : List ℕ → Word → Word → List ℕ
head kind name above = word kind ++ (word name ++ word above)

-- v VOL KSTATE STATE LEN RDPOL
abbrev pub volume_line : Vol → Kernel → List ℕ
volume_line v kernel = word (codes "v") ++ (word v.name ++ (word (kernel_word kernel) ++ (word (vol_state_word v.state) ++ (word (decimal v.len) ++ last (policy_word v.rdpol)))))

-- pl PLEX VOL KSTATE STATE LEN LAYOUT NCOL/UNIT
abbrev pub plex_line : Plex → Word → Kernel → ℕ → List ℕ
plex_line p vol kernel len =
    head (codes "pl") p.name vol ++ (word (kernel_word kernel) ++ (word (plex_state_word p.state) ++ (word (decimal len) ++ (word (layout_word p.layout) ++ last_pair p.ncol p.unit))))

-- sd SD PLEX DISK OFF LEN COL/AT
abbrev pub subdisk_line : Subdisk → Word → List ℕ
subdisk_line s plex = head (codes "sd") s.name plex ++ (word s.disk ++ (word (decimal s.off) ++ (word (decimal s.len) ++ last_pair s.col s.at)))

abbrev pub row_line : Row → List ℕ
row_line (VolumeRow v kernel) = volume_line v kernel
row_line (PlexRow p vol kernel len) = plex_line p vol kernel len
row_line (SubdiskRow s plex vol) = subdisk_line s plex
