mod CommandWords
mod Input
