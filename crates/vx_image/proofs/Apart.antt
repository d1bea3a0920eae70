-- The strips of a plex's columns: each is a subdisk's, lies on its disk, and has no sector of another.
use Rattle.std.proofs.Common.{◌≡◌, ◌∙◌, ℕ, zero, suc, ◌+◌, ◌≤◌, ◌^◌, Bool, true, List, [], ◌∷◌, ◌++◌, length, Option, Some, None, refl, sym, ap, subst, inl, inr, arith, ◌&&◌, ◌==◌, nat_le}
use Rattle.std.specs.List.{list_all, flat_map, find}
use Rattle.std.proofs.lemmas.Bool.{false≢true, and_parts, and_from, le-leb, lt-ltb, eq-eqb, eqb-true}
use Rattle.vx_base.specs.Named.{Word}
use Rattle.vx_layout.specs.declared.strip.Strip.{Strip}
use Rattle.vx_layout.specs.Valid.{is_strip, is_apart, are_apart}
use Rattle.vx_base.proofs.NamedLemmas.{bytes_eq_same}
use Rattle.vx_config_parts.specs.declared.plex.Plex.{Plex}
use Rattle.vx_config_parts.specs.declared.subdisk.Subdisk.{Subdisk}
use Rattle.vx_config_parts.specs.Objects.{refers}
use Rattle.vx_rules.specs.Columns.{is_in_column}
use Rattle.vx_objects.specs.declared.config.Config.{Config}
use Rattle.vx_image.specs.Lies.{strips_of, slot_of, strip_of, strip_then, strips_from, columns_from, is_on_disk, are_on_disks}
use Rattle.vx_image.proofs.PlexMembers.{IsIn, in_either, in_any, all_in}
use Rattle.vx_image.proofs.Chain.{IsPiece, found_in}
use Rattle.vx_image.proofs.Plexes.{IsValid, config_valid, filled, on_disk, disk_short, clear}

pub all_from : {A : Type 0} (test : A → Bool) (xs : List A) → ((x : A) → IsIn xs x → test x ≡ true) → list_all test xs ≡ true
all_from test [] h = refl
all_from test (x ∷ xs) h = and_from _ _ (h x (inl refl)) (all_from test xs (λ y k. h y (inr k)))

-- the strip is that of a piece that begins at the sector of its column or behind it
pub record Comes (c : Config) (name : Word) (col at : ℕ) (x : Strip) : Type 0 where
  pub subdisk : Subdisk
  pub piece : IsPiece c name col subdisk
  pub from : at ≤ subdisk.at
  pub is : x ≡ strip_of c.disks subdisk

pub strips_come : (n : ℕ) (c : Config) (name : Word) (col at : ℕ) (x : Strip) → IsIn (strips_from n c name col at) x → Comes c name col at x
strips_come zero c name col at x h = absurd h
strips_come (suc n) c name col at x h = by (λ next k. strips_come n c name col next x k) (find (λ s. is_in_column name col s && s.at == at) c.subdisks) refl h where
  by : ((next : ℕ) → IsIn (strips_from n c name col next) x → Comes c name col next x) → (f : Option Subdisk) → find (λ s. is_in_column name col s && s.at == at) c.subdisks ≡ f → IsIn (strip_then c.disks f (λ next. strips_from n c name col next)) x → Comes c name col at x
  by on None e h = absurd h
  by on (Some s) e (inl h) =
      let r = found_in (λ s. is_in_column name col s && s.at == at) c.subdisks s e in
      let parts = and_parts (is_in_column name col s) (s.at == at) r.1 in
      let here = eqb-true s.at at parts.1 in
      record { subdisk = s; piece = (r.0, parts.0); from = omega (arith, here); is = h }
  by on (Some s) e (inr h) =
      let r = found_in (λ s. is_in_column name col s && s.at == at) c.subdisks s e in
      let here = eqb-true s.at at (and_parts (is_in_column name col s) (s.at == at) r.1).1 in
      let later = on (s.at + s.len) h in
      let le = later.from in
      record { subdisk = later.subdisk; piece = later.piece; from = omega (arith, here, le); is = later.is }

-- ---- on a disk

strip_good : (c : Config) → IsValid c → (s : Subdisk) → IsIn c.subdisks s → is_strip (strip_of c.disks s) ≡ true
strip_good c v s h =
    let d = on_disk c v s h in
    let room = d.room in
    let short = disk_short c v d.disk d.there in
    and_from _ _ (lt-ltb 0 s.len (filled c v s h)) (le-leb (s.off + s.len) (2 ^ 40) (omega (arith, room, short)))

pub strips_good : (c : Config) → IsValid c → (n : ℕ) (name : Word) (col at : ℕ) → list_all is_strip (strips_from n c name col at) ≡ true
strips_good c v n name col at = all_from is_strip (strips_from n c name col at) (λ x h.
    let r = strips_come n c name col at x h in
    subst (λ y. is_strip y ≡ true) (sym r.is) (strip_good c v r.subdisk r.piece.0))

strip_inside : (c : Config) → IsValid c → (s : Subdisk) → IsIn c.subdisks s → is_on_disk c.disks (strip_of c.disks s) ≡ true
strip_inside c v s h =
    let d = on_disk c v s h in
    in_any (λ e. e.slot == slot_of c.disks s.disk && nat_le (s.off + s.len) e.publen) c.disks d.disk d.there (and_from _ _ (eq-eqb d.disk.slot (slot_of c.disks s.disk) (sym d.slot)) (le-leb (s.off + s.len) d.disk.publen d.room))

strips_inside : (c : Config) → IsValid c → (n : ℕ) (name : Word) (col at : ℕ) → list_all (is_on_disk c.disks) (strips_from n c name col at) ≡ true
strips_inside c v n name col at = all_from (is_on_disk c.disks) (strips_from n c name col at) (λ x h.
    let r = strips_come n c name col at x h in
    subst (λ y. is_on_disk c.disks y ≡ true) (sym r.is) (strip_inside c v r.subdisk r.piece.0))

pub columns_inside : (c : Config) → IsValid c → (n : ℕ) (name : Word) (col : ℕ) → are_on_disks c.disks (columns_from n c name col) ≡ true
columns_inside c v zero name col = refl
columns_inside c v (suc n) name col = and_from _ _ (strips_inside c v (length c.subdisks) name col 0) (columns_inside c v n name (col + 1))

-- ---- apart

same_at : (s t : Subdisk) → s ≡ t → s.at ≡ t.at
same_at s t e = ap (λ x. x.at) e

same_col : (s t : Subdisk) → s ≡ t → s.col ≡ t.col
same_col s t e = ap (λ x. x.col) e

pub apart_strips : (c : Config) → IsValid c → (n : ℕ) (name : Word) (col at : ℕ) → are_apart (strips_from n c name col at) ≡ true
apart_strips c v zero name col at = refl
apart_strips c v (suc n) name col at = by (λ next. apart_strips c v n name col next) (find (λ s. is_in_column name col s && s.at == at) c.subdisks) refl where
  by : ((next : ℕ) → are_apart (strips_from n c name col next) ≡ true) → (f : Option Subdisk) → find (λ s. is_in_column name col s && s.at == at) c.subdisks ≡ f → are_apart (strip_then c.disks f (λ next. strips_from n c name col next)) ≡ true
  by on None e = refl
  by on (Some s) e =
      let r = found_in (λ s. is_in_column name col s && s.at == at) c.subdisks s e in
      let long = filled c v s r.0 in
      and_from _ _ (all_from (is_apart (strip_of c.disks s)) (strips_from n c name col (s.at + s.len)) (λ x h.
      let later = strips_come n c name col (s.at + s.len) x h in
      let le = later.from in
      subst (λ y. is_apart (strip_of c.disks s) y ≡ true) (sym later.is) (clear c v s later.subdisk r.0 later.piece.0 (λ same. let e = same_at s later.subdisk same in omega (arith, e, le, long)))))
      (on (s.at + s.len))

append_apart : (xs ys : List Strip) → are_apart xs ≡ true → are_apart ys ≡ true → ((x y : Strip) → IsIn xs x → IsIn ys y → is_apart x y ≡ true) → are_apart (xs ++ ys) ≡ true
append_apart [] ys a b h = b
append_apart (x ∷ xs) ys a b h =
    let parts = and_parts (list_all (is_apart x) xs) (are_apart xs) a in
    and_from _ _ (all_from (is_apart x) (xs ++ ys) (λ z k. elim (in_either xs ys z k) [ inl l ↦ all_in (is_apart x) xs z parts.0 l | inr r ↦ h x z (inl refl) r ]))
    (append_apart xs ys parts.1 b (λ y z k l. h y z (inr k) l))

-- the strips of these columns are those of subdisks in them
columns_come : (n : ℕ) (c : Config) (name : Word) (col : ℕ) (x : Strip) → IsIn (flat_map (λ strips. strips) (columns_from n c name col)) x → (t : Subdisk) × IsIn c.subdisks t × (col ≤ t.col) × (x ≡ strip_of c.disks t) × (refers t.plex name ≡ true)
columns_come zero c name col x h = absurd h
columns_come (suc n) c name col x h = elim (in_either (strips_from (length c.subdisks) c name col 0) (flat_map (λ strips. strips) (columns_from n c name (col + 1))) x h) [
  | inl here ↦
      let r = strips_come (length c.subdisks) c name col 0 x here in
      let parts = and_parts (refers r.subdisk.plex name) (r.subdisk.col == col) r.piece.1 in
      let number = eqb-true r.subdisk.col col parts.1 in
      (r.subdisk, r.piece.0, omega (arith, number), r.is, parts.0)
  | inr later ↦ let r = columns_come n c name (col + 1) x later in let le = r.2 in (r.0, r.1, omega (arith, le), r.3, r.4)
]

pub apart_columns : (c : Config) → IsValid c → (n : ℕ) (name : Word) (col : ℕ) → are_apart (flat_map (λ strips. strips) (columns_from n c name col)) ≡ true
apart_columns c v zero name col = refl
apart_columns c v (suc n) name col =
    append_apart (strips_from (length c.subdisks) c name col 0) (flat_map (λ strips. strips) (columns_from n c name (col + 1))) (apart_strips c v (length c.subdisks) name col 0) (apart_columns c v n name (col + 1)) (λ x y h k.
    let a = strips_come (length c.subdisks) c name col 0 x h in
    let b = columns_come n c name (col + 1) y k in
    let number = eqb-true a.subdisk.col col (and_parts (refers a.subdisk.plex name) (a.subdisk.col == col) a.piece.1).1 in
    let le = b.2 in
    subst (λ z. is_apart z y ≡ true) (sym a.is) (subst (λ z. is_apart (strip_of c.disks a.subdisk) z ≡ true) (sym b.3) (clear c v a.subdisk b.0 a.piece.0 b.1 (λ same. let e = same_col a.subdisk b.0 same in omega (arith, e, le, number)))))

-- ---- two plexes

pub one_name : (o : Option Word) (a b : Word) → refers o a ≡ true → refers o b ≡ true → a ≡ b
one_name None a b h k = absurd (false≢true h)
one_name (Some n) a b h k = sym (bytes_eq_same n a h) ∙ bytes_eq_same n b k

same_plex : (s t : Subdisk) (name : Word) → s ≡ t → refers t.plex name ≡ true → refers s.plex name ≡ true
same_plex s t name same h = ap (λ x. refers x.plex name) same ∙ h

pub plexes_apart : (c : Config) (p q : Plex) → (p.name ≡ q.name → ⊥) → list_all (λ x. list_all (is_apart x) (strips_of c q)) (strips_of c p) ≡ true
plexes_apart c p q differ = all_from (λ x. list_all (is_apart x) (strips_of c q)) (strips_of c p) (λ x h. all_from (is_apart x) (strips_of c q) (λ y k.
    let a = columns_come p.ncol c p.name 0 x h in
    let b = columns_come q.ncol c q.name 0 y k in
    subst (λ z. is_apart z y ≡ true) (sym a.3) (subst (λ z. is_apart (strip_of c.disks a.0) z ≡ true) (sym b.3) (clear c (config_valid c) a.0 b.0 a.1 b.1 (λ same. differ (one_name a.0.plex p.name q.name a.4 (same_plex a.0 b.0 q.name same b.4)))))))
