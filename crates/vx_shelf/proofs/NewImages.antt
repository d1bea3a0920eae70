-- What is seen of a shelf as a blank device joins it.
use Rattle.std.proofs.Common.{◌≡◌, ◌∙◌, ◌+◌, ◌-◌, ◌*◌, ◌<◌, ◌≤◌, ℕ, Bool, true, false, cond, List, take, replicate, Option, None, sym, ap, subst, refl, arith}
use Rattle.std.specs.List.{list_all}
use Rattle.std.specs.Str.{bytes_eq}
use Rattle.std.proofs.lemmas.Bool.{cond-false, eq-eqb, ne_eqb, lt-ltb}
use Rattle.std.proofs.lemmas.List.{take-replicate, drop-replicate, length-replicate}
use Rattle.vx_base.specs.Blocks.{block_at}
use Rattle.vx_base.specs.Named.{Word, put, SameUnder}
use Rattle.vx_base.proofs.NamedLemmas.{bytes_eq_same}
use Rattle.vx_piece.specs.Device.{new_device}
use Rattle.vx_piece.specs.Seen.{Seen}
use Rattle.vx_piece.specs.MemPiece.{mem_seen}
use Rattle.vx_shelf.specs.Shelf.{IsBlank, IsFresh, Joins}
use Rattle.vx_shelf.specs.MemShelf.{Place, is_empty, is_at_rest, is_numbered_below, are_numbered, free_by, held_by, free_in, held_in, IsAppended, IsMissing}
use Rattle.vx_shelf.proofs.Numbers.{below_more, fresh, numbers_more}
use Rattle.vx_shelf.proofs.Places.{shown_none, shown_push, list_all-push}
use Rattle.vx_shelf.proofs.Holds.{is_free, not_held}

block_of_zeros : (count k : ℕ) → k < count → block_at (replicate (512 * count) 0) k ≡ replicate 512 0
block_of_zeros count k lt = ap (take 512) (drop-replicate (512 * k) (512 * count) 0) ∙ take-replicate 512 (512 * count - 512 * k) 0 (omega (arith, lt))

-- a new device of zeros is blank
pub is_blank : (count number : ℕ) (bytes : List ℕ) (seen : Seen) → bytes ≡ replicate (512 * count) 0 → seen ≡ new_device number bytes → IsBlank count seen
is_blank count number bytes seen zeros is = subst (IsBlank count) (sym (is ∙ ap (new_device number) zeros)) (record {
  whole = refl;
  sectors = omega (arith, length-replicate {A = ℕ} (512 * count) 0);
  told = refl;
  zeros = block_of_zeros count;
  faults = refl;
  writes = refl;
  reads = refl;
  cut = refl;
  stop = refl;
})

-- nothing is put where nothing stands
put_none : {X : Type 0} (name : Word) (old : Word → Option X) → old name ≡ None → SameUnder old (put name None old)
put_none name old none other = by_test (bytes_eq name other) refl
  where
    by_test : (b : Bool) → bytes_eq name other ≡ b → cond b None (old other) ≡ old other
    by_test true e = sym (subst (λ n. old n ≡ None) (bytes_eq_same name other e) none)
    by_test false e = refl

module _ (name : Word) (count number : ℕ) (ps more : List Place) (some : 1 ≤ count) (missing : IsMissing name ps) (has : IsAppended name count number ps more) where
  is_full : is_empty has.piece ≡ false
  is_full = ne_eqb _ _ (λ e. let s = has.blank.sectors in omega (arith, e, s, some))

  pub made_at_rest : list_all is_at_rest ps ≡ true → list_all is_at_rest more ≡ true
  made_at_rest rest = ap (list_all is_at_rest) has.behind ∙ list_all-push is_at_rest ps (name, has.piece) rest (cond-false _ _ _ is_full ∙ eq-eqb _ _ has.blank.whole)

  pub made_below : list_all (is_numbered_below number) ps ≡ true → list_all (is_numbered_below (number + 1)) more ≡ true
  made_below below =
      let is = has.numbered in
      ap (list_all (is_numbered_below (number + 1))) has.behind
      ∙ list_all-push (is_numbered_below (number + 1)) ps (name, has.piece) (below_more number (number + 1) ps (omega arith) below) (lt-ltb _ _ (omega (arith, is)))

  pub made_numbered : list_all (is_numbered_below number) ps ≡ true → are_numbered ps ≡ true → are_numbered more ≡ true
  made_numbered below numbered = ap are_numbered has.behind ∙ numbers_more number ps (name, has.piece) numbered below has.numbered

  pub made_joins : list_all (is_numbered_below number) ps ≡ true → Joins name count (held_in ps) (free_in ps) (free_in more)
  made_joins below = record {
    device = mem_seen has.piece;
    blank = has.blank;
    fresh = subst (λ n. IsFresh n (free_in ps) (held_in ps)) (sym has.numbered) (fresh number ps below);
    after = λ other. ap (λ xs. free_in xs other) has.behind ∙ shown_push free_by ps name has.piece missing other ∙ ap (λ s. put name s (free_in ps) other) (is_free has.piece is_full);
  }

  pub made_held : SameUnder (held_in ps) (held_in more)
  made_held other =
      ap (λ xs. held_in xs other) has.behind
      ∙ shown_push held_by ps name has.piece missing other
      ∙ ap (λ s. put name s (held_in ps) other) (not_held has.piece is_full)
      ∙ put_none name (held_in ps) (shown_none held_by name ps missing) other
