mod ElfLemmas
mod PutLemmas
