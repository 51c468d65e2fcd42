-- The canonical form of an accepted sheet, read as a sheet: as long, its sections where they were, its words up to the last arc the same, and its
-- region words those of the regions under their new numbers. So its division is the same nesting.
use Prim.Native.Nat.{ℕ, zero, suc, ◌+◌, ◌-◌, ◌*◌, ◌/◌, ◌≤◌, ◌<◌}
use mathlib.Core.Bool.{Bool, true, false, cond, ◌||◌}
use mathlib.Core.Path.{◌≡◌, refl, sym, ap, ◌∙◌}
use mathlib.Core.Logic.{⊎_elim}
use mathlib.Core.List.{List, ◌++◌}
use native.Mathlib.Omega.{arith}
use lib.ListN.{length, length-append, get_or-append}
use lib.Seq.{get_or-append-add}
use lib.Dec.{eqb}
use Rattle.indices.specs.Columns.{at}
use Rattle.indices.proofs.Columns.{length_column, at_column}
use Rattle.indices.proofs.Tests.{or_left, or_right}
use Rattle.indices.proofs.Steps.{by_order, true_or_false}
use Rattle.sheet.specs.Limits.{arc_numbers, region_numbers}
use Rattle.sheet.specs.Words.{words, word, kind_of, payload_of, kind, payload}
use Rattle.sheet.specs.Sections.{span_count, holds_at, hold_count, arc_count, arcs_at, regions_at, region_words}
use Rattle.sheet.specs.Regions.{region_count, leaf_word, parent_word, arc_word, leaf_arc}
use Rattle.sheet.proofs.Bytes.{length_bytes, word_bytes}
use Rattle.sheet.proofs.RegionWords.{word_kind, word_payload, payload_parent, payload_arc}
use Rattle.sheet.proofs.Bounds.{regions_inside, region_words_lem, word_drop}
use Rattle.sheet.proofs.SameKinds as kinds
use Rattle.judgement.specs.Form.{wrong_size}
use Rattle.judgement.specs.Judgement.{Accepted}
use Rattle.judgement.proofs.Clear.{whole_words}
use Rattle.judgement.proofs.Accepted.{none_applies, front_there, few_arcs, few_region_words}
use Rattle.judgement.proofs.Places.{region_word_kind}
use Rattle.procedure.specs.Division.{Division, regions, parent, arc_of, is_leaf}
use Rattle.procedure.specs.OfSheet.{division_of}
use Rattle.procedure.proofs.OfSheet.{graph_arcs, division_regions, division_parent, division_arc}
use Rattle.canonical_form.specs.Numbering.{new_number, old_number}
use Rattle.canonical_form.specs.Canonical.{new_word, front_words, new_words, canonical}
use Rattle.canonical_form.specs.Alike.{SameNesting}
use Rattle.canonical_form.proofs.Numbering.{new_in, new_root, parent_first, old_in, new_old, old_new, old_later}
use Rattle.canonical_form.proofs.Proper.{division_ok, proper, inner_arc}

module _ (b : List ℕ) (ok : Accepted b) where
  abbrev d : Division
  d = division_of b

  two : 2 ≤ words b
  two = front_there b ok

  -- THE WORDS of the canonical form
  pub length_front : length (front_words b) ≡ regions_at b
  unfolding front_words
  length_front = length_column (regions_at b) (word b)

  pub length_new : length (new_words b) ≡ words (region_words b)
  unfolding new_words
  length_new = length_column (words (region_words b)) (λ k. new_word d (old_number d (suc k)))

  pub size_right : wrong_size b ≡ false
  size_right = (none_applies b ok).size

  -- it is as long as the sheet
  pub canonical_length : length (canonical b) ≡ length b
  unfolding canonical
  canonical_length =
      length_bytes (front_words b ++ new_words b)
      ∙ omega (
        arith,
        length-append (front_words b) (new_words b),
        length_front,
        length_new,
        region_words_lem b two,
        regions_inside b two,
        whole_words b
            size_right,
      )

  pub same_words : words (canonical b) ≡ words b
  same_words = ap (λ (n : ℕ). n / 4) canonical_length

  -- its words: "nodes, source, spans and arcs as given", the holds among them, and then the region words
  pub front_entry : (i : ℕ) → i < regions_at b → at (front_words b ++ new_words b) i ≡ word b i
  unfolding front_words
  front_entry i l = get_or-append (front_words b) (new_words b) 0 i (omega (arith, length_front)) ∙ at_column (regions_at b) (word b) i l

  pub back_entry : (k : ℕ) → k < words (region_words b) → at (front_words b ++ new_words b) (regions_at b + k) ≡ new_word d (old_number d (suc k))
  unfolding new_words
  back_entry k l =
      ap (λ (n : ℕ). at (front_words b ++ new_words b) (n + k)) (sym length_front)
      ∙ get_or-append-add (front_words b) (new_words b) k 0
      ∙ at_column (words (region_words b)) (λ k. new_word d (old_number d (suc k))) k l

  pub front_word : (i : ℕ) → i < regions_at b → word (canonical b) i ≡ word b i
  unfolding canonical
  front_word i l = word_bytes (front_words b ++ new_words b) i ∙ front_entry i l

  pub front_kind : (i : ℕ) → i < regions_at b → kind (canonical b) i ≡ kind b i
  unfolding kind
  front_kind i l = ap kind_of (front_word i l)

  pub front_payload : (i : ℕ) → i < regions_at b → payload (canonical b) i ≡ payload b i
  unfolding payload
  front_payload i l = ap payload_of (front_word i l)

  back_word : (k : ℕ) → k < words (region_words b) → word (canonical b) (regions_at b + k) ≡ new_word d (old_number d (suc k))
  unfolding canonical
  back_word k l = word_bytes (front_words b ++ new_words b) (regions_at b + k) ∙ back_entry k l

  -- THE FIELDS of the word of a region
  new_below : (r : ℕ) → r < regions d → new_number d r < region_numbers
  new_below r l = omega (arith, new_in d (proper b ok) r l, division_regions b, few_region_words b ok)

  parent_inside : (r : ℕ) → 0 < r → r < regions d → parent d r < regions d
  parent_inside r pos l = omega (arith, (proper b ok).lower r pos l)

  arc_below : (r : ℕ) → r < regions d → is_leaf d r ≡ true → arc_of d r < arc_numbers
  arc_below r l leaf = omega (arith, ((division_ok b ok).leaf_arc_lem r l leaf).0, graph_arcs b, few_arcs b ok)

  module _ (r : ℕ) (pos : 0 < r) (l : r < regions d) where
    new_word_kind : kind_of (new_word d r) ≡ cond (is_leaf d r) 7 6
    unfolding new_word
    new_word_kind = word_kind (new_number d (parent d r)) (arc_of d r) (new_below (parent d r) (parent_inside r pos l)) (is_leaf d r) (arc_below r l)

    new_word_payload : payload_of (new_word d r) ≡ cond (is_leaf d r) (new_number d (parent d r) * arc_numbers + arc_of d r) (new_number d (parent d r))
    unfolding new_word
    new_word_payload = word_payload (new_number d (parent d r)) (arc_of d r) (new_below (parent d r) (parent_inside r pos l)) (is_leaf d r) (arc_below r l)

  -- THE SECTIONS stand where they stood: the region words are of kinds 6 and 7 in both
  -- the region of word k, and its number
  module _ (k : ℕ) (l : k < words (region_words b)) where
    pub number_in : suc k < regions d
    number_in = omega (arith, division_regions b)

    pub region_later : 0 < old_number d (suc k)
    region_later = old_later d (proper b ok) (suc k) (omega arith) number_in

    pub region_in : old_number d (suc k) < regions d
    region_in = old_in d (proper b ok) (suc k) number_in

    back_kind : kind (canonical b) (regions_at b + k) ≡ cond (is_leaf d (old_number d (suc k))) 7 6
    unfolding kind
    back_kind = ap kind_of (back_word k l) ∙ new_word_kind (old_number d (suc k)) region_later region_in

  -- a test for a kind that no region word has comes out the same at every word
  module _ (κ : ℕ) (other : eqb 6 κ || eqb 7 κ ≡ false) where
    copied_other : (leaf : Bool) → eqb (cond leaf 7 6) κ ≡ false
    copied_other true = or_right (eqb 6 κ) (eqb 7 κ) other
    copied_other false = or_left (eqb 6 κ) (eqb 7 κ) other

    given_other : (k : ℕ) → k < words (region_words b) → eqb (kind b (regions_at b + k)) κ ≡ false
    given_other k l = ⊎_elim (λ e. rw e (copied_other false)) (λ e. rw e (copied_other true)) (region_word_kind b ok k l)

    same_test : (i : ℕ) → i < words b → eqb (kind (canonical b) i) κ ≡ eqb (kind b i) κ
    same_test i li =
        by_order i (regions_at b) (λ l. ap (λ (n : ℕ). eqb n κ) (front_kind i l))
        (λ l.
        let k = i - regions_at b in
        let lk : k < words (region_words b) = omega (arith, region_words_lem b two) in
        let place : i ≡ regions_at b + k = omega arith in
        rw (place, back_kind k lk, given_other k lk) (copied_other (is_leaf d (old_number d (suc k)))))

  -- so the sections are where they were
  pub same_spans : span_count (canonical b) ≡ span_count b
  same_spans = kinds.same_spans (canonical b) b same_words same_test

  pub same_holds_at : holds_at (canonical b) ≡ holds_at b
  same_holds_at = kinds.same_holds_at (canonical b) b same_words same_test

  pub same_holds : hold_count (canonical b) ≡ hold_count b
  same_holds = kinds.same_holds (canonical b) b same_words same_test

  pub same_arcs_at : arcs_at (canonical b) ≡ arcs_at b
  same_arcs_at = kinds.same_arcs_at (canonical b) b same_words same_test

  pub same_arcs : arc_count (canonical b) ≡ arc_count b
  same_arcs = kinds.same_arcs (canonical b) b same_words same_test

  pub same_regions_at : regions_at (canonical b) ≡ regions_at b
  same_regions_at = kinds.same_regions_at (canonical b) b same_words same_test

  pub same_region_words : words (region_words (canonical b)) ≡ words (region_words b)
  same_region_words =
      omega (arith, region_words_lem b two, region_words_lem (canonical b) (omega (arith, two, same_words)), same_regions_at, same_words)

  -- REGION WORD k is that of the region whose new number is k + 1
  module _ (k : ℕ) (l : k < words (region_words b)) where
    abbrev pub region : ℕ
    region = old_number d (suc k)

    new_word_lem : word (region_words (canonical b)) k ≡ new_word d region
    unfolding region_words
    new_word_lem = word_drop (canonical b) (regions_at (canonical b)) k ∙ ap (λ (n : ℕ). word (canonical b) (n + k)) same_regions_at ∙ back_word k l

    pub new_kind : kind (region_words (canonical b)) k ≡ cond (is_leaf d region) 7 6
    unfolding kind
    new_kind = ap kind_of new_word_lem ∙ new_word_kind region (region_later k l) (region_in k l)

    pub new_payload : payload (region_words (canonical b)) k
        ≡ cond (is_leaf d region) (new_number d (parent d region) * arc_numbers + arc_of d region) (new_number d (parent d region))
    unfolding payload
    new_payload = ap payload_of new_word_lem ∙ new_word_payload region (region_later k l) (region_in k l)

    pub new_leaf : leaf_word (region_words (canonical b)) k ≡ is_leaf d region
    unfolding leaf_word
    new_leaf = rw new_kind (seven (is_leaf d region))
      where
        seven : (leaf : Bool) → eqb (cond leaf 7 6) 7 ≡ leaf
        seven true = refl
        seven false = refl

    pub new_parent : parent_word (region_words (canonical b)) k ≡ new_number d (parent d region)
    unfolding parent_word
    new_parent =
        rw (new_leaf, new_payload)
        (payload_parent (new_number d (parent d region)) (arc_of d region)
        (new_below (parent d region) (parent_inside region (region_later k l) (region_in k l)))
        (is_leaf d region) (arc_below region (region_in k l)))

    pub new_arc_lem : is_leaf d region ≡ true → arc_word (region_words (canonical b)) k ≡ arc_of d region
    unfolding arc_word
    new_arc_lem leaf =
        rw (new_payload, leaf)
        (payload_arc (new_number d (parent d region)) (arc_of d region) (new_below (parent d region) (parent_inside region (region_later k l) (region_in k l)))
        (arc_below region (region_in k l) leaf))

    leaf_arc_new : leaf_arc (region_words (canonical b)) (suc k) ≡ arc_of d region
    leaf_arc_new =
        ⊎_elim (λ (leaf : is_leaf d region ≡ true). rw (new_leaf, leaf) (new_arc_lem leaf))
        (λ (inner : is_leaf d region ≡ false). rw (new_leaf, inner) (sym (inner_arc b region (region_in k l) inner)))
        (true_or_false (is_leaf d region))

  -- THE DIVISION of the canonical form, by region
  abbrev d' : Division
  d' = division_of (canonical b)

  pub same_regions : regions d ≡ regions d'
  same_regions = omega (arith, division_regions b, division_regions (canonical b), same_region_words)

  in_copy : (m : ℕ) → m < regions d → m < region_count (region_words (canonical b))
  in_copy m l = omega (arith, division_regions b, same_region_words)

  parent_at : (m : ℕ) → 0 < m → m < regions d → parent d' m ≡ new_number d (parent d (old_number d m))
  parent_at zero pos l = absurd (omega arith)
  parent_at (suc k) pos l = division_parent (canonical b) (suc k) (in_copy (suc k) l) ∙ new_parent k (let e = division_regions b in omega arith)

  root_old : old_number d 0 ≡ 0
  root_old = ap (old_number d) (sym (new_root d (proper b ok))) ∙ old_new d (proper b ok) 0 (proper b ok).some

  arc_at_lem : (m : ℕ) → m < regions d → arc_of d' m ≡ arc_of d (old_number d m)
  arc_at_lem zero l =
      division_arc (canonical b) 0 (in_copy 0 l)
      ∙ sym (ap (arc_of d) root_old ∙ division_arc b 0 (let e = division_regions b in omega arith))
  arc_at_lem (suc k) l = division_arc (canonical b) (suc k) (in_copy (suc k) l) ∙ leaf_arc_new k (let e = division_regions b in omega arith)

  pub same_arc : (r : ℕ) → r < regions d → arc_of d' (new_number d r) ≡ arc_of d r
  same_arc r l = arc_at_lem (new_number d r) (new_in d (proper b ok) r l) ∙ ap (arc_of d) (old_new d (proper b ok) r l)

  -- The canonical form has the same nesting, each region under its new number.
  pub same_nesting : SameNesting (division_of b) (division_of (canonical b))
  same_nesting =
      let P = proper b ok in
      record {
        as_many = same_regions;
        to = new_number d;
        from = old_number d;
        to_in = λ r l. rw (← same_regions) (new_in d P r l);
        from_in = λ k l. old_in d P k (omega (arith, same_regions));
        from_to = old_new d P;
        to_from = λ k l. new_old d P k (omega (arith, same_regions));
        root = new_root d P;
        parents = λ r pos l.
            parent_at (new_number d r) (let up = parent_first d P r pos l in omega arith) (new_in d P r l)
            ∙ ap (λ (q : ℕ). new_number d (parent d q)) (old_new d P r l);
        arcs = same_arc;
      }

  pub to_new : (r : ℕ) → same_nesting.to r ≡ new_number d r
  unfolding same_nesting
  to_new r = refl
