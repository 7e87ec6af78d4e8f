-- Everything is made for the same geometry and the same books.
use Rattle.std.proofs.Common.{◌∙◌, ap}
use Rattle.rights_books.specs.declared.claim.Layout.{Layout}
use Rattle.mount.proofs.Tables.{empty_accounts}
use Rattle.mount.proofs.made.MountTables.new.Goals as goal

pub returns-clause-tables : goal.returns-clause-tables
returns-clause-tables g c =
    let opened = c.in_ok-books.field-0 in
    record {
      layout = c.in_ok-books.ensures.layout ∙ c.volume_layout.ensures;
      permits = c.in_ok-books.ensures.permits;
      segments = c.in_ok-words.ensures.words;
      seats = c.in_ok-words.ensures.seats;
      checkpoint = c.in_ok-words.ensures.checkpoint;
      rows = c.in_ok-rows.ensures.rows;
      memory = record {
        rights = c.in_ok-words.ensures.rights opened.books.book c.in_ok-books.ensures.segments;
        every_segment = c.in_ok-words.ensures.every_segment;
        no_segments = c.in_ok-room.ensures.none;
        states_fit = c.in_ok-room.ensures.states;
        free_fit = c.in_ok-room.ensures.free;
        shards = c.in_ok-shards.ensures.shards;
        no_numbers = c.in_ok-shards.ensures.none;
        accounts = empty_accounts opened.books.book opened.files.items c.in_ok-books.ensures.files;
        every_file = c.in_ok-books.ensures.every_file ∙ ap (λ (l : Layout). l.files) c.volume_layout.ensures;
        rooms = c.in_ok-rooms.ensures.rooms;
        no_tickets = c.in_ok-rooms.ensures.tickets;
        no_tokens = c.in_ok-rooms.ensures.tokens;
        no_files = c.in_ok-rooms.ensures.files;
      };
    }
