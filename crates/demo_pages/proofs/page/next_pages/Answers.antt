use Rattle.std.proofs.Common.{◌+◌, ◌-◌, arith}
use Rattle.std.proofs.lemmas.List.{length_push}
use Rattle.demo_pages.specs.Picture.{pages_from}
use Rattle.demo_pages.proofs.Draws.{one_page}
use Rattle.demo_pages.proofs.page.next_pages.Goals as goal

pub loop-made-preserved : goal.loop-made-preserved
loop-made-preserved c =
    let so_far = c.loop-made.invariant in
    let test = c.loop-made-test.true in
    record {
      count = rw c.in_ok-push.ensures.items (omega (arith, length_push c.loop-made.pages.items c.in_ok-page.page, so_far.count));
      pages = λ more. rw c.in_ok-push.ensures.items
          (one_page (pages_from (c.args.count + more) c.args.generator.now) c.loop-made.pages.items (c.args.count - c.loop-made._made + more)
          (c.args.count - (c.loop-made._made + 1) + more) c.loop-made.generator c.next_page.new.generator c.in_ok-page.page (omega (arith, test))
          c.in_ok-page.ensures.page c.in_ok-page.ensures.state (so_far.pages more));
    }
