use Rattle.std.proofs.Common.{rules, tests, Some, None, sym, ◌∙◌, ap}
use Rattle.std.specs.Prelude.{filter}
use Rattle.std.specs.Option.{option_map}
use Rattle.std.proofs.lemmas.Iterator.{YieldsList-from_slice}
use Rattle.std.proofs.lemmas.Iterator.Consumers.{YieldsList-from_filter, nth_from_yields_List}
use Rattle.std.proofs.lemmas.Option.{slice_get-map}
use Rattle.dm_ems.specs.declared.tables.Page.{Page}
use Rattle.dm_ems.specs.Tables.{is_of}
use Rattle.dm_ems.proofs.tables.Ems.page.Goals as goal

pub returns-in-Some : goal.returns-in-Some
returns-in-Some c =
    let of_handle = filter (is_of c.args.handle) c.args.self.now.pages in
    let found = nth_from_yields_List (Some c.in-Some.it) c.nth-found.new.self c.args.page c.in-Some.ensures.ran
    (YieldsList-from_filter _ (is_of c.args.handle) (YieldsList-from_slice c.args.self.now.pages cc)
    c.filter.ensures.closure (λ x r q k. search (rules, tests))) in
    ap (option_map (λ (page : Page). page.block)) found
    ∙ sym (slice_get-map (λ (page : Page). page.block) of_handle c.args.page)

pub returns-in-None : goal.returns-in-None
returns-in-None c =
    let of_handle = filter (is_of c.args.handle) c.args.self.now.pages in
    let found = nth_from_yields_List None c.nth-found.new.self c.args.page c.in-None.ensures.ran
    (YieldsList-from_filter _ (is_of c.args.handle) (YieldsList-from_slice c.args.self.now.pages cc)
    c.filter.ensures.closure (λ x r q k. search (rules, tests))) in
    ap (option_map (λ (page : Page). page.block)) found
    ∙ sym (slice_get-map (λ (page : Page). page.block) of_handle c.args.page)
