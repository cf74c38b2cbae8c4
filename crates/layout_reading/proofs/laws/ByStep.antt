-- The reading's checks before work, one law for each way out, and what it hands back.
use Rattle.std.specs.Prelude.{◌≡◌, Bool, true, false, List, ℕ, ◌*◌, ◌≤◌, ◌<◌, replicate, refl, Result, Ok, Err, is_err}
use Rattle.std.proofs.Common.{ap, sym, ◌∙◌, le-leb, arith}
use Rattle.std.proofs.lemmas.Bool.{lt-leb}
use Rattle.refusal.specs.declared.Refusal.{Refusal}
use Rattle.refusal.specs.Said.{said_at}
use Rattle.refusal.specs.Answer.{refuses, passed}
use Rattle.layout.specs.RowByRow.{row_by_row}
use Rattle.layout_sizes.specs.Blocks.{counts_fit}
use Rattle.layout_placing.specs.Reading.{Job, Placing, Going, visit, zeros, reading}
use Rattle.layout_reading.specs.declared.column.Stop.{Stop}
use Rattle.layout_reading.specs.declared.scan.CellFault.{CellFault}
use Rattle.layout_reading.specs.laws.Outcome.{state_of, stepped, told_by, handed, checks_of}

module _ (params : Bool) (bw bh types muls sharpness kinds hf_mul sigma : ℕ) where
  abbrev lent : Bool
  lent = counts_fit types muls sharpness kinds hf_mul sigma (bh * bw)

  pub check_params : params ≡ false → refuses (said_at 11 0 0) ≡ checks_of params bw bh types muls sharpness kinds hf_mul sigma
  check_params e = rw e

  module _ (e : params ≡ true) where
    pub check_wide : 256 < bw → refuses (said_at 1 0 0) ≡ checks_of params bw bh types muls sharpness kinds hf_mul sigma
    check_wide a = rw (e, lt-leb bw 256 a)

    module _ (a : bw ≤ 256) where
      pub check_high : 256 < bh → refuses (said_at 1 0 0) ≡ checks_of params bw bh types muls sharpness kinds hf_mul sigma
      check_high b = rw (e, le-leb bw 256 a, lt-leb bh 256 b)

      module _ (b : bh ≤ 256) where
        pub check_lengths : lent ≡ false → refuses (said_at 1 0 0) ≡ checks_of params bw bh types muls sharpness kinds hf_mul sigma
        check_lengths c = rw (e, le-leb bw 256 a, le-leb bh 256 b, c)

        pub check_fine : lent ≡ true → passed ≡ checks_of params bw bh types muls sharpness kinds hf_mul sigma
        check_fine c = rw (e, le-leb bw 256 a, le-leb bh 256 b, c)

-- the blocks visited from cleared buffers
pub read_all : (J : Job) (r : Placing) (k m g : List ℕ) → k ≡ zeros J → m ≡ zeros J → g ≡ zeros J → r ≡ row_by_row (visit J) J.bw J.bh (Going (state_of 0 k m g)) → r ≡ reading J
unfolding reading
read_all J r k m g zk zm zg e = e ∙ rw (zk, zm, zg)

-- as many zeros as the job has blocks
pub cleared : (J : Job) (k : List ℕ) (n : ℕ) → k ≡ replicate n 0 → n ≡ J.bh * J.bw → k ≡ zeros J
cleared J k n e h = e ∙ ap (λ (i : ℕ). replicate {A = ℕ} i 0) h

-- what is handed back of a reading that left k, m and g
module _ (J : Job) (t : Result ℕ Stop) (k m g : List ℕ) (e : stepped t k m g ≡ reading J) where
  pub read_accepts : (used : ℕ) → t ≡ Ok used → handed t k m g ≡ told_by J (reading J)
  read_accepts used d = ap (λ (z : Result ℕ Stop). handed z k m g) d ∙ ap (told_by J) (sym (ap (λ (z : Result ℕ Stop). stepped z k m g) d) ∙ e)

  pub read_refuses : (n : ℕ) (r : Refusal) (ck cm cg : List ℕ) → t ≡ Err (record { placed = n; why = r }) → ck ≡ zeros J → cm ≡ zeros J → cg ≡ zeros J
      → handed (Err (record { placed = n; why = r })) ck cm cg ≡ told_by J (reading J)
  read_refuses n r ck cm cg d a b c = rw (a, b, c) (ap (told_by J) (sym (ap (λ (z : Result ℕ Stop). stepped z k m g) d) ∙ e))

-- a cell that does not refuse is taken
pub taken_is : (f : Result Unit CellFault) → is_err f ≡ false → f ≡ Ok tt
taken_is (Ok u) e = refl
taken_is (Err f) e = absurd (let z : ◌≡◌ {A = ℕ} 0 1 = cc in omega arith)
