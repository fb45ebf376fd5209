-- Demand 1 for what the command stands on: a date, a key that is spelt, and the three texts of a listing have one answer each.
-- Assumes nothing.
use Rattle.demands.specs.Unique.{Determines, OneResult}
use Rattle.demands.proofs.Demand1.{once}
use Rattle.calendar.proofs.date_of.Reads as the_date_of
use Rattle.hexkey.proofs.read_key.Reads as the_read_key
use Rattle.listing.proofs.put_head.Reads as the_put_head
use Rattle.listing.proofs.put_lines.Reads as the_put_lines
use Rattle.listing.proofs.put_closing.Reads as the_put_closing

pub record OneText : Type 0 where
  pub date_of : OneResult the_date_of.Post
  pub read_key : OneResult the_read_key.Post
  pub read_key_out : Determines the_read_key.Post (λ κs x s. s.1.0.now)
  pub put_head : OneResult the_put_head.Post
  pub put_head_out : Determines the_put_head.Post (λ κs x s. s.0.now)
  pub put_lines : OneResult the_put_lines.Post
  pub put_lines_out : Determines the_put_lines.Post (λ κs x s. s.1.1.1.0.now)
  pub put_closing : OneResult the_put_closing.Post
  pub put_closing_out : Determines the_put_closing.Post (λ κs x s. s.1.0.now)

pub one_text : OneText
one_text = record {
  date_of = λ κs a x y s t p q. once p q;
  read_key = λ κs a x y s t p q. once p.0 q.0;
  read_key_out = λ κs a x y s t p q. once p.1.0 q.1.0;
  put_head = λ κs a x y s t p q. once p.0 q.0;
  put_head_out = λ κs a x y s t p q. once p.1 q.1;
  put_lines = λ κs a x y s t p q. once p.0 q.0;
  put_lines_out = λ κs a x y s t p q. once p.1 q.1;
  put_closing = λ κs a x y s t p q. once p.0 q.0;
  put_closing_out = λ κs a x y s t p q. once p.1 q.1;
}
