-- Every call of the product has one answer: crate by crate. Made by tools/surface from the source. Assumes nothing.
use Rattle.contracts.proofs.AdmissionOne.{admit-one, admit_beside-one, admit_error_from_fault-one, beside_error_from_admit_error-one}
use Rattle.contracts.proofs.AdmissionOne.{beside_error_from_fault-one, decide-one, decide_beside-one, share_in-one}
use Rattle.contracts.proofs.CalltextOne.{call_text-one}
use Rattle.contracts.proofs.CapiOne.{dugg_admit-one, dugg_admit_beside-one, dugg_carry-one, dugg_chain-one, dugg_change_load-one, dugg_check-one}
use Rattle.contracts.proofs.CapiOne.{dugg_check_words-one, dugg_clash-one, dugg_class-one, dugg_clear_reach-one, dugg_fault-one, dugg_find-one}
use Rattle.contracts.proofs.CapiOne.{dugg_heaviest-one, dugg_least-one, dugg_list-one, dugg_load_test-one, dugg_mend-one, dugg_over_full-one, dugg_plan-one}
use Rattle.contracts.proofs.CapiOne.{dugg_plan_words-one, dugg_read_plan-one, dugg_read_sheet-one, dugg_read_site-one, dugg_renumber-one, dugg_search-one}
use Rattle.contracts.proofs.CapiOne.{dugg_set_load-one, dugg_set_reach-one, dugg_share-one, dugg_share_repeated-one, dugg_tidy-one, dugg_to_bytes-one}
use Rattle.contracts.proofs.CapiOne.{dugg_to_words-one, dugg_version-one, dugg_why-one, dugg_words-one, dugg_write_plan-one, dugg_write_sheet-one}
use Rattle.contracts.proofs.CapiOne.{dugg_write_site-one}
use Rattle.contracts.proofs.CheckerOne.{check-one, check_error_from_fault-one}
use Rattle.contracts.proofs.FinderOne.{find-one, find_error_from_fault-one, find_error_from_search_error-one, over_full-one}
use Rattle.contracts.proofs.FlowsheetOne.{read_flows-one}
use Rattle.contracts.proofs.HandheldOne.{change_error_from_fault-one, change_error_from_plan_error-one, change_load-one, changed_load-one}
use Rattle.contracts.proofs.HeaviestOne.{heaviest-one}
use Rattle.contracts.proofs.JudgesOne.{chain-one, in_class-one, least-one, load_test-one}
use Rattle.contracts.proofs.ListtextOne.{list_text-one}
use Rattle.contracts.proofs.MenderOne.{mend-one, mend_error_from_fault-one, mend_error_from_short-one, mend_only-one}
use Rattle.contracts.proofs.NumberingOne.{carry-one, carry_error_from_renumber_error-one, renumber-one, renumber_error_from_fault-one}
use Rattle.contracts.proofs.PlanfileOne.{plan_write_error_from_fault-one, read_plan-one, write_plan-one}
use Rattle.contracts.proofs.PlannerOne.{plan-one, plan_error_from_fault-one}
use Rattle.contracts.proofs.ResizeOne.{set_blocked-one, set_channels-one, set_rule-one, set_slots-one}
use Rattle.contracts.proofs.RoomsOne.{room_of-one}
use Rattle.contracts.proofs.SearchOne.{search-one, search_error_from_fault-one}
use Rattle.contracts.proofs.SharesOne.{default_repeats-one, share-one, share_of-one}
use Rattle.contracts.proofs.SheetOne.{read_sheet-one, write_sheet-one}
use Rattle.contracts.proofs.SiteOne.{rule_ok-one, site_accepted-one, site_clash-one, site_clash_rows-one, site_clear_reach-one, site_set_load-one}
use Rattle.contracts.proofs.SiteOne.{site_set_reach-one, site_zeros-one, size_ok-one, within-one}
use Rattle.contracts.proofs.SitefileOne.{read_site-one, write_site-one}
use Rattle.contracts.proofs.TidyingOne.{changes_made-one, tidy-one}
use Rattle.contracts.proofs.WhytextOne.{why_text-one}
use Rattle.contracts.proofs.WordtableOne.{check_words-one, form_error_from_fault-one, plan_words-one, to_bytes-one, to_words-one}
use Rattle.contracts.specs.Every.{EveryCall}

pub every_call : EveryCall
every_call = record {
  within = within-one;
  size_ok = size_ok-one;
  rule_ok = rule_ok-one;
  site_zeros = site_zeros-one;
  site_accepted = site_accepted-one;
  site_clash_rows = site_clash_rows-one;
  site_clash = site_clash-one;
  site_set_load = site_set_load-one;
  site_set_reach = site_set_reach-one;
  site_clear_reach = site_clear_reach-one;
  set_slots = set_slots-one;
  set_channels = set_channels-one;
  set_rule = set_rule-one;
  set_blocked = set_blocked-one;
  load_test = load_test-one;
  chain = chain-one;
  in_class = in_class-one;
  least = least-one;
  plan_error_from_fault = plan_error_from_fault-one;
  plan = plan-one;
  change_error_from_fault = change_error_from_fault-one;
  change_error_from_plan_error = change_error_from_plan_error-one;
  changed_load = changed_load-one;
  change_load = change_load-one;
  check_error_from_fault = check_error_from_fault-one;
  check = check-one;
  search_error_from_fault = search_error_from_fault-one;
  search = search-one;
  heaviest = heaviest-one;
  share_of = share_of-one;
  default_repeats = default_repeats-one;
  share = share-one;
  mend_error_from_fault = mend_error_from_fault-one;
  mend_error_from_short = mend_error_from_short-one;
  mend = mend-one;
  mend_only = mend_only-one;
  renumber_error_from_fault = renumber_error_from_fault-one;
  carry_error_from_renumber_error = carry_error_from_renumber_error-one;
  renumber = renumber-one;
  carry = carry-one;
  form_error_from_fault = form_error_from_fault-one;
  plan_words = plan_words-one;
  check_words = check_words-one;
  to_words = to_words-one;
  to_bytes = to_bytes-one;
  find_error_from_fault = find_error_from_fault-one;
  find_error_from_search_error = find_error_from_search_error-one;
  find = find-one;
  over_full = over_full-one;
  room_of = room_of-one;
  admit_error_from_fault = admit_error_from_fault-one;
  beside_error_from_fault = beside_error_from_fault-one;
  beside_error_from_admit_error = beside_error_from_admit_error-one;
  share_in = share_in-one;
  decide = decide-one;
  decide_beside = decide_beside-one;
  admit = admit-one;
  admit_beside = admit_beside-one;
  read_flows = read_flows-one;
  read_site = read_site-one;
  write_site = write_site-one;
  plan_write_error_from_fault = plan_write_error_from_fault-one;
  read_plan = read_plan-one;
  write_plan = write_plan-one;
  read_sheet = read_sheet-one;
  write_sheet = write_sheet-one;
  tidy = tidy-one;
  changes_made = changes_made-one;
  call_text = call_text-one;
  why_text = why_text-one;
  list_text = list_text-one;
  dugg_fault = dugg_fault-one;
  dugg_clash = dugg_clash-one;
  dugg_set_load = dugg_set_load-one;
  dugg_set_reach = dugg_set_reach-one;
  dugg_clear_reach = dugg_clear_reach-one;
  dugg_load_test = dugg_load_test-one;
  dugg_chain = dugg_chain-one;
  dugg_class = dugg_class-one;
  dugg_least = dugg_least-one;
  dugg_heaviest = dugg_heaviest-one;
  dugg_plan = dugg_plan-one;
  dugg_search = dugg_search-one;
  dugg_find = dugg_find-one;
  dugg_over_full = dugg_over_full-one;
  dugg_change_load = dugg_change_load-one;
  dugg_check = dugg_check-one;
  dugg_plan_words = dugg_plan_words-one;
  dugg_check_words = dugg_check_words-one;
  dugg_to_words = dugg_to_words-one;
  dugg_to_bytes = dugg_to_bytes-one;
  dugg_mend = dugg_mend-one;
  dugg_renumber = dugg_renumber-one;
  dugg_carry = dugg_carry-one;
  dugg_share = dugg_share-one;
  dugg_share_repeated = dugg_share_repeated-one;
  dugg_read_site = dugg_read_site-one;
  dugg_write_site = dugg_write_site-one;
  dugg_read_plan = dugg_read_plan-one;
  dugg_write_plan = dugg_write_plan-one;
  dugg_read_sheet = dugg_read_sheet-one;
  dugg_write_sheet = dugg_write_sheet-one;
  dugg_tidy = dugg_tidy-one;
  dugg_admit = dugg_admit-one;
  dugg_admit_beside = dugg_admit_beside-one;
  dugg_words = dugg_words-one;
  dugg_why = dugg_why-one;
  dugg_list = dugg_list-one;
  dugg_version = dugg_version-one;
}
