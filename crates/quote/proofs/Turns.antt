-- One line of a batch more is taken, and the last.
use Rattle.std.proofs.Common.{◌≡◌, ℕ, ◌+◌, ◌<◌, ◌≤◌, ◌^◌, List, [], ◌∷◌, ◌++◌, length, vec_items, ℤ, Some, None, Option, sym, ap, refl, ◌∙◌, subst, append_assoc, append-nil, arith, length-append}
use Rattle.faults.specs.Faults.{Refused}
use Rattle.list.specs.declared.leaves.Leaves.{Leaves}
use Rattle.amounts.specs.declared.amount_leaf.AmountLeaf.{AmountLeaf}
use Rattle.days.specs.declared.day_leaf.DayLeaf.{DayLeaf}
use Rattle.notation.specs.Laws.Counted.{Counts, all_counted, none_counted, one_counted}
use Rattle.quote.specs.declared.batch.Taken.{Taken}
use Rattle.quote.specs.Batch.{Line, malformed, blank, sheet, is_malformed, sheets_of}
use Rattle.quote.specs.Quotation.{malformed_remark, refusal_remark, remarks_after}
use Rattle.quote.specs.Sheets.{one_if, refusals_after, stop_after}
use Rattle.quote.specs.Taking.{Completes, Follows, Holds, Stands, one_more_if}

few_sheets : (ls : List Line) → length (sheets_of ls) ≤ length ls
few_sheets [] = omega arith
few_sheets (malformed ∷ ls) = let i = few_sheets ls in omega arith
few_sheets (blank ∷ ls) = let i = few_sheets ls in omega arith
few_sheets (sheet b ∷ ls) = let i = few_sheets ls in omega arith

one_at_most : (o : Option Refused) → one_if o ≤ 1
one_at_most None = omega arith
one_at_most (Some r) = omega arith

few_refusals : (before sheets : List (List ℕ)) → refusals_after before sheets ≤ length sheets
few_refusals before [] = omega arith
few_refusals before (b ∷ bs) = let i = few_refusals (before ++ b ∷ []) bs in let j = one_at_most (stop_after before b) in omega arith

refused_one : (o : Option Refused) (n m rest all : ℕ) → m ≡ one_more_if o n → n + (one_if o + rest) ≡ all → all ≤ 2 ^ 63 → m + rest ≡ all
refused_one None n m rest all e s h = omega arith
refused_one (Some r) n m rest all e s h = omega arith

module _ (all : List Line) where
  -- the lines so far are taken, and the lines that are left are from number k on
  pub record Left (t : Taken) (a : Leaves ℤ AmountLeaf) (d : Leaves ℕ DayLeaf) (k : ℕ) (rest : List Line) : Type 0 where
    pub before : List (List ℕ)
    pub few : length before < k
    pub sheets : before ++ sheets_of rest ≡ sheets_of all
    pub stands : Stands before t a d
    pub refused : t.refused + refusals_after before (sheets_of rest) ≡ refusals_after [] (sheets_of all)
    pub others : Counts is_malformed all t.malformed rest
    pub remarks : vec_items t.remarks ++ remarks_after before k rest ≡ remarks_after [] 1 all

  module _ (few : length all ≤ 2 ^ 63) (u t : Taken) (a a' : Leaves ℤ AmountLeaf) (d d' : Leaves ℕ DayLeaf) (k j : ℕ) where
    pub turn : (l : Line) (ls rest : List Line) (w : Left u a d k rest) → rest ≡ l ∷ ls → j ≡ k + 1 → Follows w.before k l u t a' d' → Left t a' d' j ls
    turn malformed ls rest w s e f = record {
      before = w.before;
      few = let x = w.few in omega arith;
      sheets = rw s at w.sheets;
      stands = f.0;
      refused = rw (f.1.refused) (rw s at w.refused);
      others = one_counted is_malformed all u.malformed t.malformed malformed ls rest few w.others s f.1.malformed;
      remarks = rw (e, f.1.remarks) (append_assoc (vec_items u.remarks) (malformed_remark k) (remarks_after w.before (k + 1) ls) ∙ rw s at w.remarks);
    }
    turn blank ls rest w s e f = record {
      before = w.before;
      few = let x = w.few in omega arith;
      sheets = rw s at w.sheets;
      stands = f.0;
      refused = rw (f.1) (rw s at w.refused);
      others = one_counted is_malformed all u.malformed t.malformed blank ls rest few w.others s (ap (λ (v : Taken). v.malformed) f.1);
      remarks = rw (e, f.1) (rw s at w.remarks);
    }
    turn (sheet b) ls rest w s e f =
        let most = few_refusals [] (sheets_of all) in
        let many = few_sheets all in
        record {
          before = w.before ++ b ∷ [];
          few = let x = w.few in let y = length-append w.before (b ∷ []) in omega arith;
          sheets = append_assoc w.before (b ∷ []) (sheets_of ls) ∙ rw s at w.sheets;
          stands = f.0;
          refused = refused_one (stop_after w.before b) u.refused t.refused (refusals_after (w.before ++ b ∷ []) (sheets_of ls)) (refusals_after [] (sheets_of all)) f.1.refused (rw s at w.refused) (omega arith);
          others = one_counted is_malformed all u.malformed t.malformed (sheet b) ls rest few w.others s f.1.malformed;
          remarks = rw (e, f.1.remarks)
              (append_assoc (vec_items u.remarks) (refusal_remark (length w.before + 1) k (stop_after w.before b)) (remarks_after (w.before ++ b ∷ []) (k + 1) ls) ∙ rw s at w.remarks);
        }

  pub starts : (t : Taken) (a : Leaves ℤ AmountLeaf) (d : Leaves ℕ DayLeaf) (k : ℕ) (rest : List Line) → Holds [] a d → t.sheets ≡ 0 → t.accepted ≡ 0 → t.refused ≡ 0 → t.malformed ≡ 0 → vec_items t.remarks ≡ [] →
      k ≡ 1 → rest ≡ all → Left t a d k rest
  starts t a d k rest h s c r m v e w = record {
    before = [];
    few = omega arith;
    sheets = ap sheets_of w;
    stands = record { holds = h; sheets = s; accepted = c };
    refused = rw (r, w) (omega arith);
    others = rw (m, w) (none_counted is_malformed all);
    remarks = rw (e, w, v) refl;
  }

  pub ends : (t : Taken) (a : Leaves ℤ AmountLeaf) (d : Leaves ℕ DayLeaf) (k : ℕ) (rest : List Line) → Left t a d k rest → rest ≡ [] → Completes all t a d
  ends t a d k rest w s = record {
    stands = subst (λ (xs : List (List ℕ)). Stands xs t a d) (sym (append-nil w.before) ∙ rw s at w.sheets) w.stands;
    refusals = let r = rw s at w.refused in omega arith;
    others = all_counted is_malformed all t.malformed rest w.others s;
    remarks = sym (append-nil (vec_items t.remarks)) ∙ rw s at w.remarks;
  }
