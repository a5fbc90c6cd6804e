use Rattle.std.proofs.Common.{◌≡◌, ℕ, List, ◌++◌, ◌*◌, ◌≤◌, length, refl, sym, ap, ◌∙◌, subst, arith}
use Rattle.bit_image.specs.PbmText.{pbm_head}
use Rattle.bitmap_input.specs.declared.gray_reader.GrayHead.{GrayHead}
use Rattle.mkbitmap_run.specs.Inner.FilterWork.{IsGrayHead, setup_of}
use Rattle.mkbitmap_run.proofs.PageWork.{work_start}
use Rattle.mkbitmap_run.proofs.work.Work.new.Goals as goal

-- the reader and the filter are before the first row
pub returns : goal.returns
returns c =
    let made = c.in_ok-filter.ensures in
    let read = c.requires.read in
    let same : setup_of c.in_ok-filter.filter ≡ c.args.setup = λ i. record { radius = made.setup.0 i; times = made.setup.1 i; level = made.setup.2 i } in
    let wrote : c.put_pbm_head.new.out.items ≡ pbm_head (c.args.setup.times * c.args.head.width) (c.args.setup.times * c.args.head.height) =
    c.in_ok-put_pbm_head.ensures ∙ ap (λ (l : List ℕ). l ++ pbm_head (c.args.setup.times * c.args.head.width) (c.args.setup.times * c.args.head.height)) c.new-text.ensures.items in
    let to : pbm_head (c.in_ok-filter.filter.times * c.args.reader.head.width) (c.in_ok-filter.filter.times * c.args.reader.head.height)
    ≡ pbm_head (c.args.setup.times * c.args.head.width) (c.args.setup.times * c.args.head.height) =
    λ i. pbm_head (made.setup.1 i * (read.is i).width) (made.setup.1 i * (read.is i).height) in
    record {
      same_reader = refl;
      same_setup = same;
      start = record {
        at_work = work_start c.args.setup _ (made.sides.0 ∙ ap (λ (h : GrayHead). h.width) (sym read.is)) (made.sides.1 ∙ ap (λ (h : GrayHead). h.height) (sym read.is))
            (made.sides.2 ∙ ap (λ (h : GrayHead). h.maxval) (sym read.is)) same made.start.0 made.start.1 read.none_given read.going_on c.requires.setup (subst IsGrayHead (sym read.is) read.in_range)
            (let wide : length c.in_ok-row.row.items ≡ c.args.head.width = omega (arith, c.in_ok-row.ensures.len, c.in_ok-row.row.ok.0) in wide ∙ ap (λ (h : GrayHead). h.width) (sym read.is))
            (λ page width height maxval bright. made.follows page (width ∙ made.sides.0) (height ∙ made.sides.1) (maxval ∙ made.sides.2) (λ x y. subst (λ n. page.sample x y ≤ n) made.sides.2 (bright x y)));
        none = made.start.1;
        head = wrote ∙ sym to;
      };
    }
