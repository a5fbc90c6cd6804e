-- Right labels and first steps, where the allowed steps are said in another way.
use Rattle.std.proofs.Common.{ℕ, List, arith}
use Rattle.outline_check.specs.declared.label.Label.{Label}
use Rattle.outline_check.specs.Labels.{LeadsTo, AreRight, LeadsFirst, label_at}
use Rattle.outline_check.specs.Leading.{LeadFirst}
use Rattle.outline_check.specs.Inner.Known.{AreRightDownTo}

-- two ways to say which steps are allowed
module _ (is_allowed may : ℕ → ℕ → Type 0) (so : (i j : ℕ) → is_allowed i j → may i j) (back : (i j : ℕ) → may i j → is_allowed i j)
    (cost : ℕ → ℕ → ℕ) (labels : List Label) where
  leads_to_where : (i j : ℕ) (label : Label) → LeadsTo is_allowed cost labels i j label → LeadsTo may cost labels i j label
  leads_to_where i j label leads = record { allowed = so i j leads.allowed; by_step = leads.by_step }

  pub are_right_where : (size : ℕ) → AreRight size is_allowed cost labels → AreRight size may cost labels
  are_right_where size right = record {
    places = right.places;
    last = right.last;
    each = λ i below. (
        let here = right.each i below in
        record {
          next = here.next;
          leads = leads_to_where i here.next (label_at labels i) here.leads;
          least = λ j allowed. here.least j (back i j allowed);
        }
        );
  }

module _ (is_allowed may : ℕ → ℕ → Type 0) (so : (i j : ℕ) → is_allowed i j → may i j) (back : (i j : ℕ) → may i j → is_allowed i j)
    (cost : ℕ → ℕ → ℕ) (labels : List Label) where
  leads_first_where : (i j : ℕ) → LeadsFirst is_allowed cost labels i j → LeadsFirst may cost labels i j
  leads_first_where i j leads = record {
    leads = leads_to_where is_allowed may so back cost labels i j (label_at labels i) leads.leads;
    first = λ k other. leads.first k (leads_to_where may is_allowed back so cost labels i k (label_at labels i) other);
  }

  pub lead_first_where : (size : ℕ) (at : List ℕ) → LeadFirst size is_allowed cost labels at → LeadFirst size may cost labels at
  lead_first_where size at lead = record {
    starts = lead.starts;
    leads = λ k d short. leads_first_where _ _ (lead.leads k d short);
  }

-- all labels are known from the end down to the first
pub right_from_known : (size : ℕ) (is_allowed : ℕ → ℕ → Type 0) (cost : ℕ → ℕ → ℕ) (labels : List Label)
    → AreRightDownTo size is_allowed cost 0 labels → AreRight size is_allowed cost labels
right_from_known size is_allowed cost labels known = record {
  places = known.places;
  last = known.last;
  each = λ i below. known.each i (omega arith) below;
}
